pub mod Making
pub mod Noted
pub mod Opening
pub mod Seeking
pub mod Stage
