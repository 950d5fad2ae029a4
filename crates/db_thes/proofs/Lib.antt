pub mod NewThesauri
pub mod Plans
pub mod Effects
