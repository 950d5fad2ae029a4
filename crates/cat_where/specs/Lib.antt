pub mod Lexing
pub mod Grammar
pub mod Machine
pub mod Verdicts
pub mod Results
