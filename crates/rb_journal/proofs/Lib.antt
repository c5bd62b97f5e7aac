pub mod Ends
pub mod Cuts
pub mod Entries
pub mod Stores
pub mod Damages
mod Closings
mod Verbatims
pub mod Refusals
