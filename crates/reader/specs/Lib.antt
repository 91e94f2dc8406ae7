pub mod Targets
pub mod Numbers
pub mod Holding
pub mod Seen
pub mod Named
