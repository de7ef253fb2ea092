pub mod Patterns
pub mod Scalings
pub mod Wholes
pub mod Bounds
pub mod Binaries
pub mod SmallWholes
pub mod Turns
pub mod Names
