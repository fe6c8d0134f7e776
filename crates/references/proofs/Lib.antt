pub mod Bringing
pub mod Cutting
pub mod Numbers
pub mod Gathering
pub mod Searching
