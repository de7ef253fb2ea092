pub mod Kernels
pub mod KernelLaws
pub mod File
pub mod Field
pub mod FieldLaws
