pub mod Lent
pub mod Striking
