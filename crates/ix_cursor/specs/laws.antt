pub mod Silence
pub mod Unscored
