pub mod Counts
pub mod Dashes
pub mod Durations
pub mod HeaderVarints
pub mod PlainTexts
pub mod Values
