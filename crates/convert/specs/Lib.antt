pub mod Loaders
pub mod Lines
pub mod Convert
pub mod ConvertAnswer
pub mod ConvertLaws
pub mod LineLaws
pub mod Rows
