pub mod Covering
pub mod RowValues
pub mod Steps
pub mod BestSteps
