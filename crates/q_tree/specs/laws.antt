pub mod SameSlots
pub mod PostfixSums
pub mod Occurring
pub mod Postings
pub mod SameScores
