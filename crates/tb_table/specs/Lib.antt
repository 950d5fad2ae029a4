pub mod Tables
pub mod Spelling
pub mod Rules
pub mod Readings
pub mod Shapes
pub mod Room
pub mod Promises
pub mod laws
