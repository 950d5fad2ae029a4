pub mod Tokens
pub mod Scanned
pub mod Trying
pub mod Rising
pub mod Looking
pub mod Promises
pub mod laws
