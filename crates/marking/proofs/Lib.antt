pub mod Marked
pub mod Striking
