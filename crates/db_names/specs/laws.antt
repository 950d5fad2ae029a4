pub mod Pairs
pub mod Heads
