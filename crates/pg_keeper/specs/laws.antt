-- Laws of keepers over a store file.
pub mod Paged
pub mod Loading
