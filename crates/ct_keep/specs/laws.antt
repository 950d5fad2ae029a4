-- Laws of contents and keepers, for the crates above.
pub mod RisingKeys
pub mod FoundKeys
pub mod Rising
pub mod Content
pub mod Changes
pub mod EntryKeys
pub mod Pairs
pub mod Tail
pub mod Counting
pub mod CountedPairs
pub mod Looks
pub mod Composing
