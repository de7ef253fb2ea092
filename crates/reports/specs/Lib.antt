pub mod ReportAnswer
pub mod FinishedAnswer
pub mod FinishedLaws
pub mod Partial
