pub mod Records
pub mod Tests
pub mod Turns
pub mod OnePass
