pub mod Reach
pub mod Task
pub mod Next
pub mod Draft
pub mod Sent
pub mod Same
pub mod Laws
