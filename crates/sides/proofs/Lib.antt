pub mod RowLines
pub mod TableRows
