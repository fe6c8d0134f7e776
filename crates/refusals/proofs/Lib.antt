pub mod Checks
pub mod Numbers
pub mod Texts
pub mod Sheets
pub mod Codes
