pub mod Ends
pub mod Found
pub mod Knowledge
pub mod Rule
pub mod Unseen
