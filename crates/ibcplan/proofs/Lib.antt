mod Refusals
pub mod Parcels
