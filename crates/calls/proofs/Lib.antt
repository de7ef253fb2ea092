pub mod Answers
pub mod ByCall
