-- What the run of a script promises, where it is there as data.
use Rattle.std.specs.Prelude.{◌≡◌, ℕ, List, Option}
use Rattle.std.specs.declared.alloc.Global.{Global}
use Rattle.std.specs.Io.KnownBytes.{Appends}
use Rattle.rb_base.specs.Sink.{AppendsBeginning}
use Rattle.rb_script_config.specs.Paths.{path_ids}
use Rattle.rb_script_types.specs.Script.{Script}
use Rattle.rb_super_turn.specs.AsEvents.{as_events}
use Rattle.rb_super_turn.specs.Report.{Report}
use Rattle.rb_super_turn.specs.Script.{IsScript}
use Rattle.rb_super_turn.specs.Turns.{IsReportOf}
use Rattle.rb_text_report.specs.Report.{text}

-- the script is one of a relayer that is set up, and the writer took the text of this report of it, of chains and paths with these identifiers
pub record WritesReportOf (script : Script Global) (old new : Option (List ℕ)) (chain_ids ids : List (List ℕ)) (report : Report) : Type 0 where
  pub kept : IsScript (as_events script)
  pub reported : IsReportOf (as_events script) report
  pub chains : chain_ids ≡ script.config.chains
  pub paths : ids ≡ path_ids script.config.paths
  pub written : Appends old new (text script.config.version script.config.chains (path_ids script.config.paths) report)

-- the writer took a beginning of the text of a report of it
pub record BeginsReportOf (script : Script Global) (old new : Option (List ℕ)) : Type 0 where
  pub report : Report
  pub kept : IsScript (as_events script)
  pub reported : IsReportOf (as_events script) report
  pub begun : AppendsBeginning old new (text script.config.version script.config.chains (path_ids script.config.paths) report)
