pub mod State
pub mod Sweep
pub mod Moves
