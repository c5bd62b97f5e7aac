pub mod Amount
pub mod Window
pub mod Fraction
pub mod Fee
pub mod Options
pub mod Identifier
pub mod Sink
pub mod Counted
