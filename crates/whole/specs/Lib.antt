pub mod Whole
pub mod NearestLaws
pub mod Nearest
pub mod WholeLaws
pub mod Rows
