pub mod Cells
pub mod Commits
pub mod Linking
pub mod Packing
pub mod Growing
