pub mod Sums
pub mod Ways
pub mod Walks
pub mod Counts
