pub mod Added
pub mod Lists
pub mod Readable
pub mod Tallying
pub mod Firsts
pub mod Fitting
pub mod Crediting
pub mod Sizing
