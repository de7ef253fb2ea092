pub mod TrackLaws
pub mod Tracks
