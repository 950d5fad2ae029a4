pub mod Numbers
pub mod Documents
pub mod Seeking
pub mod laws
