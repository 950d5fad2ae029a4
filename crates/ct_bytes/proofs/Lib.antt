pub mod VarintLengths
pub mod ReadingSteps
pub mod VarintWriting
pub mod RowKeySteps
