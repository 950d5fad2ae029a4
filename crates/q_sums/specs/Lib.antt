pub mod Magnitudes
