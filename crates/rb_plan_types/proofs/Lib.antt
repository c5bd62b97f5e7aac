pub mod Bounds
pub mod Cheapest
pub mod Converse
pub mod Costs
pub mod Exact
pub mod Existence
pub mod Least
pub mod Lookups
pub mod Orders
pub mod OverViews
pub mod Raise
pub mod Routes
pub mod Search
pub mod Tops
pub mod Values
pub mod Views
mod Alive
mod Seldom
