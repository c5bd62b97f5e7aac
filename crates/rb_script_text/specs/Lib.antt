pub mod Json
pub mod Lengths
pub mod Moments
pub mod Members
