pub mod Faults
pub mod Judging
pub mod Listing
pub mod Overlays
pub mod Refusals
pub mod Singles
pub mod Touching
