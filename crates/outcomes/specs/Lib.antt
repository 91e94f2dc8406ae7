pub mod Desk
pub mod Named
pub mod Outcomes
