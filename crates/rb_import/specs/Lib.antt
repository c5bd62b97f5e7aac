-- the script that a setup and the answers of nodes make, and its text
pub mod Texts
pub mod Openings
pub mod Tallies
pub mod Shares
pub mod Events
pub mod Scripts
pub mod Reading
pub mod Reasons
