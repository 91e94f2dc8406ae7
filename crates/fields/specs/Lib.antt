pub mod Causes
pub mod Values
pub mod Tags
pub mod Fields
pub mod Reading
