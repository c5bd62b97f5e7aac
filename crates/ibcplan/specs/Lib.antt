pub mod Status
pub mod Journals
pub mod Forms
pub mod Sendings
pub mod Headline
