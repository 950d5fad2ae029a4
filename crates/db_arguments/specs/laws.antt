-- Laws of what the arguments ask for.
pub mod OneReading
