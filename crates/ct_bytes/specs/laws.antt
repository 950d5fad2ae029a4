pub mod Varints
pub mod VarintSums
pub mod ByteOrder
pub mod Numbers
pub mod RowKeys
