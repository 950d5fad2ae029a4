pub mod Varints
pub mod RowKeys
pub mod Promises
pub mod laws
