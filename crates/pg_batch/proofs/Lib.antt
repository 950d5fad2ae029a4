mod AfterWeights
pub mod Counted
pub mod DiskReads
pub mod EntryPages
pub mod Gathering
pub mod Neighbours
pub mod Weighed
