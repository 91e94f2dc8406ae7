pub mod Both
pub mod Cut
pub mod Meeting
pub mod Row
