pub mod Wholes
pub mod Tables
pub mod Spelling
pub mod Scripts
pub mod Steps
pub mod Faults
pub mod Promises
