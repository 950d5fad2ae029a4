pub mod Growing
pub mod Heard
