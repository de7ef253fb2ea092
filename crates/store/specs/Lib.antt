pub mod Calls
pub mod OpenAnswer
pub mod OpenLaws
pub mod Puts
pub mod PutAnswer
pub mod SoundStores
