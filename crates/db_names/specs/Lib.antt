pub mod Heads
pub mod Findings
pub mod Parts
pub mod Promises
pub mod laws
