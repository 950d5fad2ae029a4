pub mod RowSteps
pub mod FilingSteps
pub mod EntrySteps
pub mod ReadSteps
pub mod CreateSteps
pub mod ShapeSteps
