pub mod ReportJson
pub mod Windows
pub mod Commands
