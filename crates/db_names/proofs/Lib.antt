pub mod ReadSteps
pub mod ListSteps
