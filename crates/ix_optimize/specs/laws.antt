pub mod Places
pub mod Tidies
pub mod Parts
pub mod Optimised
pub mod Shapes
pub mod Lists
pub mod Limited
