pub mod ChainLemmas
pub mod LinkLemmas
pub mod TableLemmas
pub mod PlaceLemmas
pub mod CellLemmas
pub mod KeptLemmas
pub mod WalkLemmas
pub mod SubtreeLemmas
