pub mod Densitize
pub mod Conventions
pub mod Reports
pub mod Laws
pub mod Rows
pub mod EvenLaws
