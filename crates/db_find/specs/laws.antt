pub mod Catalogues
pub mod Filtering
pub mod Looking
pub mod Matching
pub mod Seeking
pub mod Thesauri
pub mod Alike
