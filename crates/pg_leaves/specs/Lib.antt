pub mod Editing
pub mod Finding
pub mod Relisting
pub mod laws
