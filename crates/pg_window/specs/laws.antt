pub mod Frames
pub mod Loads
pub mod PageKeys
pub mod Parts
pub mod Stored
pub mod Windows
