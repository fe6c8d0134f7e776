pub mod Containing
