-- lemmas
pub mod Added
pub mod Alike
pub mod Clocks
pub mod Gregorian
