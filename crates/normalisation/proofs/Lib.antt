pub mod Records
pub mod Sorted
pub mod Merging
pub mod Touching
pub mod Turns
pub mod Normalising
pub mod Displaced
pub mod Bounds
