pub mod Matrices
pub mod Sixteen
