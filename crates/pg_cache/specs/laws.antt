-- Laws of caches.
pub mod Caches
