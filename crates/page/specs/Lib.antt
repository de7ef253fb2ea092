pub mod Page
pub mod PageLaws
pub mod ReadBack
pub mod Posted
