pub mod ListLaws
pub mod Lists
pub mod Stages
