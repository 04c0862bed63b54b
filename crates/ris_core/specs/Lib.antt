pub mod Answered
pub mod Marks
pub mod Moves
pub mod Parts
pub mod Rows
pub mod Runs
pub mod Stands
