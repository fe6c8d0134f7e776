pub mod Results
pub mod Keeping
