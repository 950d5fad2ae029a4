pub mod Allowing
pub mod Selects
pub mod Alike
