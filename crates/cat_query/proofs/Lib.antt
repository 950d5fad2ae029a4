pub mod Stacks
pub mod Scans
pub mod Complete
pub mod Sound
pub mod Verdicts
pub mod Limits
pub mod PlainTrees
