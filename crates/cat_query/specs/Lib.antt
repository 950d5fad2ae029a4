pub mod Lexing
pub mod Reading
pub mod Grammar
pub mod PlainTrees
pub mod Machine
pub mod Views
pub mod Verdicts
