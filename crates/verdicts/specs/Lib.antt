pub mod Records
pub mod OnePass
