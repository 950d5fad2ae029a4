pub mod DirectLoads
pub mod Loads
