pub mod ReadTables
pub mod Cut
