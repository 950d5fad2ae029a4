-- Laws of what the definitions beside this folder speak of.
pub mod Calls
pub mod Lengths
pub mod Ranges
pub mod Writing
