pub mod Links
pub mod Passes
pub mod Totals
