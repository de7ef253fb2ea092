pub mod Joins
pub mod Parts
pub mod Points
pub mod Laws
