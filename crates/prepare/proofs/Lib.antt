pub mod Inputs
pub mod Checks
