pub mod Forward
pub mod Passes
