pub mod Rows
pub mod Turns
pub mod Behind
pub mod Walks
pub mod Checks
