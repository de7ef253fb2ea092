pub mod Shifts
pub mod Magnitudes
