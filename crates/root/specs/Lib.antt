pub mod Root
pub mod Floors
pub mod Rounds
pub mod Cases
pub mod Flags
pub mod Nearest
pub mod Rows
