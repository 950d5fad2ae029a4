-- Laws of changes by their keys.
pub mod ByKey
pub mod Costs
pub mod Counts
pub mod Places
pub mod Rising
pub mod Weights
