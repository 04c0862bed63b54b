pub mod CommitLemmas
pub mod GrownLemmas
pub mod KindLemmas
pub mod ModifiedLemmas
pub mod PairLemmas
pub mod RepairedLemmas
pub mod SafeLemmas
