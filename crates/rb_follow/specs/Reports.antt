-- Reports of turns after which what serves no more is forgotten.
use Rattle.rb_core_model.specs.Forgetting.{has_many_to_forget}
use Rattle.rb_core_model.specs.Standing.{Standing}
use Rattle.rb_super.specs.Forgetful.{floors_after, AreForgetful}
use Rattle.rb_script_types.specs.declared.version.Version.{Version}
use Rattle.rb_script_types.specs.declared.version.Version.TheVariants.{One, Two, Three, Four}
use Rattle.rb_super_turn.specs.Report.{Report}
use Rattle.rb_super_turn.specs.Script.{Turn}
use Rattle.rb_super_turn.specs.Turns.{AreTurnReports}
use Rattle.rb_follow.specs.Tidying.{least_to_go}
use Rattle.std.specs.Prelude.{List}

-- one report for each turn; from version 3 on what lies below the floors is forgotten after a turn, where that is worth while
abbrev pub AreReportsIn : Version → Standing → List Turn → Report → Type 0
AreReportsIn One s ts rs = AreTurnReports s ts rs
AreReportsIn Two s ts rs = AreTurnReports s ts rs
AreReportsIn Three s ts rs = AreForgetful s ts (floors_after (has_many_to_forget least_to_go) s ts rs) rs
AreReportsIn Four s ts rs = AreForgetful s ts (floors_after (has_many_to_forget least_to_go) s ts rs) rs
