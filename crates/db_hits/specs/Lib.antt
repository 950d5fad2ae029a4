pub mod Parts
pub mod Descriptors
pub mod Calling
pub mod Looking
pub mod Giving
pub mod Rows
pub mod laws
