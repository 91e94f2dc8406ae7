pub mod Desks
pub mod Meanings
