pub mod RowLists
pub mod laws
