pub mod Noting
pub mod Untidies
pub mod Indexes
pub mod Removing
pub mod Held
pub mod Dropping
pub mod EachAdded
