pub mod LeftOut
pub mod Files
pub mod Folders
pub mod Fleets
pub mod Leavings
pub mod Memory
pub mod Messages
pub mod Packets
