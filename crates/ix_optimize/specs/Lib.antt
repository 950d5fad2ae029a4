pub mod Optimising
pub mod Limited
pub mod laws
