pub mod TermSteps
pub mod JoinSteps
pub mod WalkSteps
