-- What a run over a text promises.
use Rattle.std.specs.Prelude.{◌≡◌, ℕ, List, Option, Ok}
use Rattle.std.specs.declared.alloc.Global.{Global}
use Rattle.std.specs.Io.KnownBytes.{Appends}
use Rattle.rb_base.specs.Sink.{AppendsBeginning}
use Rattle.rb_script_types.specs.Script.{Script}
use Rattle.rb_script_config.specs.Paths.{path_ids}
use Rattle.rb_script_read.specs.Scripts.{script_of}
use Rattle.rb_super_turn.specs.Report.{Report}
use Rattle.rb_super_turn.specs.Script.{IsScript}
use Rattle.rb_super_turn.specs.AsEvents.{as_events}
use Rattle.rb_super_turn.specs.Turns.{IsReportOf}
use Rattle.rb_text_report.specs.Report.{text}

-- the bytes hold the script, which is one of a relayer that is set up, and this is its report: for each client and turn the
-- least list of updates, with the exact labelling, and the least cut of its messages
pub record IsReportFor (bytes : List ℕ) (script : Script Global) (report : Report) : Type 0 where
  pub read : script_of bytes ≡ Ok script
  pub kept : IsScript (as_events script)
  pub reported : IsReportOf (as_events script) report

-- the writer took the text of that report, where its bytes are known before and after
pub record WritesReport (bytes : List ℕ) (old new : Option (List ℕ)) : Type 0 where
  pub script : Script Global
  pub report : Report
  pub planned : IsReportFor bytes script report
  pub written : Appends old new (text script.config.version script.config.chains (path_ids script.config.paths) report)

-- it is this report, of chains and paths with these identifiers
pub record WritesThisReport (bytes : List ℕ) (old new : Option (List ℕ)) (chain_ids ids : List (List ℕ)) (report : Report) : Type 0 where
  pub writes : WritesReport bytes old new
  pub chains : chain_ids ≡ writes.script.config.chains
  pub paths : ids ≡ path_ids writes.script.config.paths
  pub this : writes.report ≡ report

-- the writer took a beginning of it, where its bytes are known
pub record BeginsReport (bytes : List ℕ) (old new : Option (List ℕ)) : Type 0 where
  pub script : Script Global
  pub report : Report
  pub planned : IsReportFor bytes script report
  pub begun : AppendsBeginning old new (text script.config.version script.config.chains (path_ids script.config.paths) report)
