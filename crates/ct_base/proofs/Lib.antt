pub mod ReadingSteps
pub mod Spelling
