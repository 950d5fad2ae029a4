pub mod Stating
pub mod Creating
pub mod Relating
pub mod Calling
pub mod laws
