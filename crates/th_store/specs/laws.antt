pub mod Pairs
pub mod Parts
pub mod Changes
pub mod Room
pub mod Rules
