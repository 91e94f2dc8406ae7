pub mod Machines
pub mod Sequence
pub mod Running
pub mod Words
