pub mod Grammar
pub mod Faults
pub mod Machine
pub mod Verdicts
pub mod Views
pub mod Examples
pub mod Results
