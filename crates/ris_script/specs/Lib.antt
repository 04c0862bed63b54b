pub mod Bytes
pub mod Digits
pub mod Headers
pub mod Left
pub mod Progress
pub mod Sayings
pub mod Standing
