pub mod Steps
pub mod Cuts
pub mod Agreement
pub mod Counted
