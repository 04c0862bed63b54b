pub mod Batches
pub mod Counts
pub mod Endings
pub mod Lists
pub mod Sessions
pub mod Sittings
pub mod Tellings
pub mod TurnFacts
