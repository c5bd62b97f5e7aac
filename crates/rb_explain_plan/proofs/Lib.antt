pub mod Between
pub mod Thresholds
pub mod Bounds
pub mod Shifted
pub mod Bisected
pub mod Told
pub mod KnownSteps
