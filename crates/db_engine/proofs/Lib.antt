pub mod Answering
pub mod ShownStore
pub mod Telling
pub mod Alike
