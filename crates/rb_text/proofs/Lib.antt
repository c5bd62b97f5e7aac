pub mod Cases
pub mod Reports
