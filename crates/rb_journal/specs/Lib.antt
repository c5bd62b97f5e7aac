pub mod Parts
pub mod Verbatim
pub mod Damage
pub mod Entries
pub mod Refusals
pub mod Stored
pub mod Laws
