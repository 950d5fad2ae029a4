pub mod Findings
pub mod Calls
pub mod Gaps
pub mod Makings
pub mod Placings
pub mod Steps
