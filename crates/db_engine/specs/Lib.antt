pub mod Steps
pub mod Executing
pub mod Looking
pub mod Runs
pub mod Alike
pub mod ShownStore
