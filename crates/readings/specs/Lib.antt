pub mod Readings
pub mod Sheets
pub mod Batches
pub mod Access
