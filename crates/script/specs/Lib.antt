pub mod Lines
pub mod Written
pub mod LineLaws
pub mod MostBytes
pub mod BenchTakesNone
pub mod Rows
