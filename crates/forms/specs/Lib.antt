pub mod Forms
pub mod FormsLaws
pub mod Words
