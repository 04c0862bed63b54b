pub mod Neighbours
pub mod Rounds
pub mod Working
