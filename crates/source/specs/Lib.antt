pub mod Density
pub mod Volumes
pub mod Laws
