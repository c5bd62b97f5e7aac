pub mod FeesLemmas
pub mod PathsLemmas
pub mod PlacesLemmas
pub mod RestsLemmas
pub mod RestsPlaces
pub mod SetupsLemmas
pub mod WordsLemmas
