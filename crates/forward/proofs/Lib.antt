pub mod Marks
pub mod Leaves
pub mod Leading
pub mod Links
pub mod Stored
pub mod Reversed
pub mod Order
pub mod Plan
