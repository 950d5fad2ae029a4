-- Laws of where the values of columns come from, and of how many texts are read.
pub mod Sources
pub mod Texts
