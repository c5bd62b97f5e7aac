pub mod Rising
pub mod Runs
pub mod Kept
pub mod Least
pub mod Within
pub mod Replaced
pub mod ReadyAfter
pub mod Ends
pub mod GoingLemmas
mod Along
