pub mod Faults
pub mod KeyPaths
pub mod Identifiers
pub mod Fields
pub mod Marks
pub mod Documents
