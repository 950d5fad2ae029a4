pub mod NewPreferences
pub mod Plans
pub mod Effects
