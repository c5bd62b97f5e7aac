pub use Rattle.rb_text_report.specs.Report
pub use Rattle.rb_super_turn.specs.Turns as PhasesTurns
pub use Rattle.rb_script_read.specs.NextTurns
pub mod Setups
pub mod Drivers
pub mod Documents
pub mod Tidying
pub mod Reports
pub mod Numbers
pub mod Followers
pub mod Journals
pub mod Seen
pub mod Views
pub mod Answers
pub mod FaultJson
pub mod Headline
pub mod Laws
