pub mod Sets
pub mod Columns
pub mod SetPromises
pub mod laws
