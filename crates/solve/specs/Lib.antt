pub mod Elimination
pub mod Solve
pub mod Rows
pub mod PivotLaws
