pub mod Lists
pub mod Scans
pub mod Complete
pub mod Sound
pub mod Verdicts
pub mod Lexemes
