pub mod BatchLengths
pub mod Batches
pub mod Recovering
