pub mod Rows
pub mod Passing
pub mod Heads
pub mod Linking
pub mod Storing
pub mod Joined
pub mod Totals
