pub use Rattle.rb_script_read.specs.Scripts
pub use Rattle.rb_super_turn.specs.Turns as PhasesTurns
pub use Rattle.rb_super_turn.specs.Judging as SuperJudging
pub mod Headline
pub mod Healths
pub mod Reports
pub mod Verdicts
