pub mod Names
pub mod Advice
pub mod FieldErrors
pub mod Values
pub mod Fields
