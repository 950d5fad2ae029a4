pub mod Groups
pub mod Tags
pub mod Tables
pub mod Pairs
pub mod Stacks
pub mod Promises
pub mod laws
