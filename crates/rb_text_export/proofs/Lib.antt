pub mod Hosts
pub mod Added
pub mod Turns
