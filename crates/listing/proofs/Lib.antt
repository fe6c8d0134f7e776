pub mod Appending
pub mod Passing
pub mod Runs
pub mod Arrivals
pub mod Bits
pub mod Small
pub mod Pairs
pub mod Walkers
