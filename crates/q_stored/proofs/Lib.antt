pub mod Stacks
pub mod Tagged
pub mod Texts
pub mod Bodies
pub mod PutSteps
pub mod HeadSteps
pub mod DecodeSteps
