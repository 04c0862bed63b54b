pub mod Counts
pub mod Journal
pub mod Printable
pub mod Small
pub mod Spelled
