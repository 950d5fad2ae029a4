pub mod Texts
pub mod WholeKeys
