pub mod Steps
pub mod AdvanceAnswer
