pub mod Inputs
pub mod Counting
pub mod Checks
