pub mod Bytes
pub mod Bench
