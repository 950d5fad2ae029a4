pub mod AsciiTokens
pub mod CharSets
pub mod Tokens
pub mod Runs
pub mod laws
