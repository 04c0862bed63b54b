pub mod Changes
pub mod Laws
pub mod Orders
pub mod Positions
