pub mod Lists
pub mod Sides
