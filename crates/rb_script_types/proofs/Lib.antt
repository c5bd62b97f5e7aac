pub mod Texts
pub mod Ends
pub mod Pairs
pub mod Turns
