-- The report of a script as JSON, with when its clients expire.
use Rattle.std.specs.Prelude.{◌≡◌, ℕ, Bool, List, ◌++◌, codes}
use Rattle.std.specs.declared.alloc.Global.{Global}
use Rattle.rb_text_report.specs.Lines.{clients_members}
use Rattle.rb_text_report.specs.declared.health.ClientHealth.{ClientHealth}
use Rattle.rb_script_config.specs.Paths.{path_ids}
use Rattle.rb_script_text.specs.Json.{json_text, object}
use Rattle.rb_script_types.specs.Script.{Script}
use Rattle.rb_script_types.specs.declared.version.Version.{Version}
use Rattle.rb_super_turn.specs.AsEvents.{as_events}
use Rattle.rb_super_turn.specs.Report.{Report}
use Rattle.rb_super_turn.specs.Turns.{IsReportOf}
use Rattle.rb_text_export.specs.ReportJson.{report_members}
use Rattle.rb_text.specs.Healths.{AreHealthsOf}
use Rattle.ibcplan.specs.Status.{plan_status}

-- a report as one object of JSON, whose last member tells when its clients expire, and a line feed
abbrev pub report_line : Version → List (List ℕ) → List (List ℕ) → Report → List ClientHealth → List ℕ
report_line version chains paths report clients = json_text (object (report_members version chains paths report ++ clients_members clients)) ++ codes "\n"

-- the text is the JSON of the script's report, with these clients; the status is the report's
pub record IsJsonOf (is_strict : Bool) (script : Script Global) (text : List ℕ) (status : ℕ) : Type 0 where
  pub report : Report
  pub clients : List ClientHealth
  pub reported : IsReportOf (as_events script) report
  pub healths : AreHealthsOf script clients
  pub written : text ≡ report_line script.config.version script.config.chains (path_ids script.config.paths) report clients
  pub ends : status ≡ plan_status is_strict report
