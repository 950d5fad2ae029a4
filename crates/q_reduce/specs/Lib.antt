pub mod Reducing
pub mod Faults
pub mod Results
pub mod Operators
pub mod Naming
pub mod Examples
pub mod Promises
pub mod laws
