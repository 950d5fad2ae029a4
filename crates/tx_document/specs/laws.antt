pub mod Streams
pub mod Found
pub mod Counts
pub mod Instances
pub mod Ordered
pub mod Few
pub mod Views
