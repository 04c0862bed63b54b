pub mod FallenLemmas
pub mod GatheringLemmas
