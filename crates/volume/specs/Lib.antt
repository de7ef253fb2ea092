pub mod Volume
pub mod Block
pub mod Laws
pub mod EvenLaws
