pub mod Loading
pub mod Sheets
pub mod Windows
pub mod laws
