pub mod AnyForest
pub mod Analyses
pub mod Repairing
