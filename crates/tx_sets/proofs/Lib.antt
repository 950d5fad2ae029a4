pub mod NameSteps
pub mod ColumnSteps
