pub mod Linear
pub mod Tests
pub mod Products
pub mod Range
pub mod Negation
