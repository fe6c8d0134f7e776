pub mod Room
pub mod Printing
pub mod MapTables
