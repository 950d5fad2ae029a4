pub mod CallSteps
pub mod NameLaws
pub mod OrderLaws
pub mod PartLaws
pub mod PrintLaws
pub mod ValueSteps
