pub mod Positions
pub mod DirectoriesLemmas
pub mod EndIds
pub mod ConfigForms
