pub mod ReadSteps
pub mod CountSteps
pub mod CopySteps
pub mod WordSteps
pub mod RequestSteps
pub mod UnknownSteps
mod OtherParts
