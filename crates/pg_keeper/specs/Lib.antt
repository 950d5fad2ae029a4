pub mod Paged
pub mod Loading
pub mod laws
