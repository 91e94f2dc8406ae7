pub mod FixedLists
