pub mod Bodies
pub mod Adopts
