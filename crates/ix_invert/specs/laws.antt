pub mod Orders
pub mod Inversions
pub mod Unique
pub mod Terms
