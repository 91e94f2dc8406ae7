pub mod Totals
pub mod Numbers
pub mod Holding
