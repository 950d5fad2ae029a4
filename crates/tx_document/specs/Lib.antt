pub mod Documents
pub mod Fields
pub mod TagSpans
pub mod Ranges
pub mod Entries
pub mod Places
pub mod Promises
pub mod laws
