pub mod Explanations
pub mod Failures
