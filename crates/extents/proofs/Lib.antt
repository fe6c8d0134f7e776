pub mod Bounds
pub mod Rows
