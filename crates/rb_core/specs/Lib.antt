pub mod State
pub mod Core
pub mod Follower
pub mod Snapshot
pub mod Order
