pub mod Centroid
pub mod Total
pub mod Calls
pub mod Laws
pub mod Rows
pub mod Homogeneous
