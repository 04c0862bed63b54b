pub mod Fields
pub mod Growth
pub mod Laws
pub mod Rest
pub mod SmallLaws
pub mod Turns
