pub mod Truth
pub mod Ruling
pub mod Slots
pub mod Met
pub mod Few
