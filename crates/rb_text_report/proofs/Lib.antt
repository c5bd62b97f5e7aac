pub mod Beginnings
pub mod Labels
pub mod Numbered
pub mod Shown
