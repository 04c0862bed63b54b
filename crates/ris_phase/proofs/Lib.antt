pub mod CellLemmas
pub mod DecideLemmas
pub mod FollowLemmas
pub mod MergeLemmas
pub mod OrderLemmas
pub mod TurnLemmas
