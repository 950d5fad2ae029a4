pub mod Places
pub mod Literals
pub mod Promises
