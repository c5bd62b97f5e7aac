pub mod Laws
pub mod Places
pub mod Power
pub mod Voters
pub mod Votes
