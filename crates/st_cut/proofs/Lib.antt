pub mod Cuts
pub mod Standing
pub mod Cutting
