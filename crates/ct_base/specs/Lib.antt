pub mod Limits
pub mod Names
pub mod Told
pub mod Causes
pub mod Characters
pub mod Moments
pub mod Zeros
pub mod laws
