pub mod Noting
pub mod Creating
pub mod Inserting
pub mod Deleting
pub mod Updating
pub mod Dropping
pub mod laws
