pub mod Copying
pub mod Promises
