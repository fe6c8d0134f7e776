pub mod Cells
pub mod Rows
pub mod Limits
pub mod Checks
