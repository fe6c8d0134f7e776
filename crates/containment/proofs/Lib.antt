pub mod Containing
pub mod Tests
pub mod Turns
