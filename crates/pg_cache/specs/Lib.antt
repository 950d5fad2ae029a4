pub mod Caches
pub mod laws
