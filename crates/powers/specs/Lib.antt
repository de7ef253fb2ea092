pub mod Arc
pub mod Log
pub mod Exp
pub mod Power
pub mod TenLaws
pub mod Rows
