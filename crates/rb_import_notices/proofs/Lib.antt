pub mod Lost
pub mod Nexts
pub mod Places
pub mod Several
