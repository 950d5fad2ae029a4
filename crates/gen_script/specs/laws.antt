-- Laws of scripts.
pub mod Hits
pub mod Occurring
pub mod Scripts
