pub mod Neighbours
pub mod RowView
