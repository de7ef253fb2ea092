pub mod Closed
pub mod Held
pub mod HeldLaws
pub mod ClosedLaws
pub mod Rows
