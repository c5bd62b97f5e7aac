pub mod LawsLemmas
pub mod RightTurns
pub mod Steps
pub mod Telling
pub mod Pieces
pub mod Whole
