pub mod Arguments
pub mod Defining
pub mod laws
