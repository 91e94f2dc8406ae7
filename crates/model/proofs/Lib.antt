pub mod Bits
pub mod Bytes
pub mod Listed
pub mod Lists
pub mod Order
pub mod Pairs
