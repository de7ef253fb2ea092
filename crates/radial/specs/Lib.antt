pub mod Radial
pub mod EvenLaws
