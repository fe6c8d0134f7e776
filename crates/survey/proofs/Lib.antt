pub mod Passing
pub mod Unplanned
pub mod Putting
