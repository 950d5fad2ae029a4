pub mod Statements
pub mod Scripts
pub mod Summaries
pub mod Hits
pub mod Occurring
pub mod laws
