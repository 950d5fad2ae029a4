pub mod Editing
pub mod Levels
pub mod Listing
pub mod Relisting
