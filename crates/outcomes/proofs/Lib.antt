pub mod Naming
pub mod Stages
pub mod Settles
pub mod Rules
pub mod Going
pub mod Ending
