pub mod Among
pub mod KeySteps
pub mod RemovalSteps
