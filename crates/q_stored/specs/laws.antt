pub mod Items
pub mod Apart
pub mod Prefixes
pub mod Stored
pub mod Anchors
pub mod Decoding
