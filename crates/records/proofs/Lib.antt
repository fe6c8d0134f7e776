pub mod Putting
pub mod Promises
