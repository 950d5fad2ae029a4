pub mod TableSteps
pub mod ReadSteps
pub mod NameLaws
pub mod PairingSteps
