pub mod Readiness
pub mod Reasons
pub mod Jobs
pub mod Listeners
pub mod Waits
pub mod Subjects
