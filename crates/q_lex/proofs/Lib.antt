pub mod Parts
pub mod Scans
pub mod Unclosed
pub mod Braces
pub mod WordSteps
pub mod Numbers
