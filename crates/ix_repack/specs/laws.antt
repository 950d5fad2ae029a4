pub mod Order
pub mod Terms
pub mod Joining
pub mod Putting
pub mod Rows
pub mod Handled
