pub mod Applied
pub mod Chains
pub mod HistoryView
pub mod Packed
pub mod Parts
pub mod Reads
pub mod Sound
pub mod Standing
