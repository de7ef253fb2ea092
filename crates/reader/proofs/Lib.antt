pub mod Turns
pub mod PutTurns
pub mod StepsOf
