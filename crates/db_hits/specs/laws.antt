pub mod Allowing
pub mod Keeping
pub mod Alike
