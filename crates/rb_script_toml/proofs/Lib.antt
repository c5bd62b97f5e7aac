pub mod Steps
pub mod IdentifierLemmas
pub mod Documents
pub mod MarkLemmas
