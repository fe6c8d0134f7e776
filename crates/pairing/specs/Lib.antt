pub mod Classes
pub mod Pairs
