pub mod Choices
pub mod Nearness
pub mod Rising
pub mod Starts
