pub mod Names
pub mod ColumnLists
