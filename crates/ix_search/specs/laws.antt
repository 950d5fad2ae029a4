pub mod Words
pub mod Entries
pub mod EntriesAlone
pub mod Parts
pub mod Wanting
pub mod Silent
pub mod WordKeys
