pub mod Holding
pub mod Loose
pub mod MapReading
pub mod OneMap
pub mod PageStrings
pub mod Standing
pub mod ValueReads
pub mod Whole
