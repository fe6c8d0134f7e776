pub mod Merging
pub mod Records
