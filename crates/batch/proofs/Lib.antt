pub mod Fitting
pub mod Promises
