pub mod InOrder
pub mod Occurrences
pub mod Rising
pub mod Slots
pub mod Views
pub mod Windows
pub mod laws
