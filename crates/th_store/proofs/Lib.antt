pub mod Scans
pub mod CountSteps
pub mod ReadSteps
pub mod ShapeSteps
pub mod NameSteps
