pub mod Checks
pub mod Alike
