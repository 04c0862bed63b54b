pub mod EffectLemmas
pub mod NeighbourLemmas
pub mod RoundLemmas
pub mod TableLemmas
pub mod TestLemmas
pub mod ValueLemmas
