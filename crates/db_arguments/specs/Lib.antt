pub mod Arguments
pub mod Form
pub mod Gathering
pub mod Reading
pub mod laws
pub mod Promises
