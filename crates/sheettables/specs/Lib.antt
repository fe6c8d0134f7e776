pub mod Kept
pub mod Parts
pub mod Made
