pub mod Marks
pub mod Changes
pub mod Readings
pub mod laws
