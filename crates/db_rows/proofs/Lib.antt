pub mod BoundSteps
pub mod RowReads
pub mod LookSteps
pub mod TextSteps
pub mod MeetSteps
pub mod Walks
pub mod NextSteps
pub mod TableWalks
