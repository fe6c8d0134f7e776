pub mod Classes
pub mod Pairing
