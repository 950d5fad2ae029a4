pub mod TakeSteps
pub mod MapSteps
mod BehindSteps
