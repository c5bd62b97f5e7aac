pub mod Floors
pub mod Marked
pub mod Room
pub mod Known
