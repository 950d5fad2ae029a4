-- Laws of the bytes of pages.
pub mod Pages
pub mod Reading
