pub mod Steps
pub mod Confirms
pub mod Checks
pub mod Assemble
pub mod Patterns
