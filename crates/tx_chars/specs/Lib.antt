pub mod Keys
pub mod KeyLaws
pub mod LongestPrefix
pub mod laws
