pub mod Gathering
pub mod Looks
pub mod Places
pub mod Scanned
pub mod Walks
pub mod laws
