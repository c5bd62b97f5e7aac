pub mod JsonText
pub mod ProvenTexts
pub mod Refusals
