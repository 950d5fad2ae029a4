pub mod TextChanges
pub mod ColumnSteps
pub mod NumberSteps
pub mod NameSteps
pub mod CountSteps
pub mod WriteSteps
pub mod ShapeSteps
pub mod RemovalSteps
