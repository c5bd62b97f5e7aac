pub mod Roots
pub mod One
