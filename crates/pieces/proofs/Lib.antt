pub mod Turns
pub mod ListLaws
