pub mod Entries
pub mod Latest
pub mod Opening
pub mod Seen
pub mod Sought
