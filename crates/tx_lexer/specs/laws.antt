-- Laws of runs and tokens, for the crates above.
pub mod Runs
pub mod TokenKeys
