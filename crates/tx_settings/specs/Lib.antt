pub mod Defaults
pub mod Attributes
pub mod PrefsBytes
pub mod PrefsPromises
pub mod laws
