pub mod Totals
pub mod Claiming
pub mod Counting
pub mod Shifting
