pub mod Tail
pub mod Digits
pub mod Distance
pub mod Lines
