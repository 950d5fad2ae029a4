pub mod Merges
pub mod Passing
