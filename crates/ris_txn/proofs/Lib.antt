pub mod JudgeLemmas
pub mod ListingLemmas
pub mod NetLemmas
pub mod OverlayLemmas
pub mod SingleLemmas
pub mod StepLemmas
pub mod TouchLemmas
