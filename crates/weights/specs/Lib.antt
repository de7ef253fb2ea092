pub mod Weights
pub mod Lists
pub mod Calibration
pub mod Laws
pub mod Rows
