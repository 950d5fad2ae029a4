pub mod Chains
pub mod DiskReads
pub mod Listing
pub mod Loaded
pub mod Reading
