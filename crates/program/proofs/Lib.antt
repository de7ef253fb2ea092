pub mod Long
pub mod Prints
pub mod Zeros
pub mod Reached
