pub mod Words
pub mod Lexing
pub mod Runs
pub mod Writing
