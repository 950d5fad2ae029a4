pub mod OptimizeSteps
