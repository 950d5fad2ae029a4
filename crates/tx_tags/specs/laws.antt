pub mod Stacks
pub mod Closers
