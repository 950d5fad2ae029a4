pub mod Terms
pub mod Putting
pub mod Repacking
pub mod Walking
pub mod laws
