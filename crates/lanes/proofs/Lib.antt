pub mod Joins
pub mod Parting
pub mod Points
pub mod Laws
