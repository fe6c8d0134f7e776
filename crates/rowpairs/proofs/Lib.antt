pub mod Ready
pub mod Holds
