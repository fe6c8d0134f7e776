pub mod Promises
pub mod Putting
