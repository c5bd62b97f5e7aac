pub mod Limits
pub mod Cut
pub mod Laws
