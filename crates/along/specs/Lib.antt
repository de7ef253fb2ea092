pub mod Along
pub mod PointLanes
pub mod AlongLaws
