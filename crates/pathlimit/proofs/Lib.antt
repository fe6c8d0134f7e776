pub mod Inputs
pub mod Pass
pub mod Leaves
pub mod Rows
pub mod Unplanned
