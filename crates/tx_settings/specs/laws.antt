pub mod Apart
pub mod MadeAgain
pub mod Kept
pub mod Settable
pub mod Lengths
pub mod Standing
