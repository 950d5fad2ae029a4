pub mod AddSteps
pub mod EntrySteps
pub mod FoundSteps
pub mod MatchSteps
pub mod OutcomeSteps
pub mod ShapeSteps
pub mod SyncSteps
