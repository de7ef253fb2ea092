pub mod Squeeze
pub mod Marks
pub mod MarkLaws
pub mod SqueezeLaws
pub mod TriangleLaws
