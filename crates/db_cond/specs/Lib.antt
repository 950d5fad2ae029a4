pub mod Lines
pub mod Faults
pub mod Refused
pub mod Conditions
