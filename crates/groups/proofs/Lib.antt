pub mod Raising
pub mod Gathering
pub mod Joining
pub mod Turns
