pub mod Roots
pub mod Answers
pub mod Counts
