pub mod Fronts
pub mod Lengths
pub mod Promises
