pub mod Same
pub mod SameLaws
pub mod Adopt
pub mod AdoptAnswer
