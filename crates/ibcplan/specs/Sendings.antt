-- What the last turn of a script sends.
use Rattle.std.specs.Prelude.{◌≡◌, List, map}
use Rattle.std.specs.declared.alloc.Global.{Global}
use Rattle.rb_core.specs.Core.{Core}
use Rattle.rb_messages.specs.declared.update.PlannedUpdate.{PlannedUpdate}
use Rattle.rb_script_types.specs.Script.{Script}
use Rattle.rb_messages.specs.Batches.{batch_view, last_batches}
use Rattle.rb_messages.specs.Updates.{last_updates, planned_view}
use Rattle.rb_messages.specs.declared.batch.PlannedBatch.{PlannedBatch}
use Rattle.rb_super_turn.specs.AsEvents.{as_events}
use Rattle.rb_super_turn.specs.Judging.{IsEndOf}
use Rattle.rb_super_turn.specs.Phases.{standing_in}
use Rattle.rb_super_turn.specs.Turns.{IsReportOf}
use Rattle.rb_super_turn.specs.Views.{report_view}
use Rattle.rb_super_turn.specs.declared.report.Report.{Report}

-- the relayer after a script, and the updates and the batches of the last turn of its report
pub record IsSendingOf (script : Script Global) (relayer : Core) (updates : List PlannedUpdate) (batches : List PlannedBatch) : Type 0 where
  pub report : Report Global
  pub reported : IsReportOf (as_events script) (report_view report)
  pub config : relayer.config ≡ script.config
  pub ended : IsEndOf (as_events script) (standing_in relayer)
  pub updates_are : map planned_view updates ≡ last_updates (standing_in relayer) relayer.config.clients report.turns.items
  pub batches_are : map batch_view batches ≡ last_batches (standing_in relayer) relayer.config.clients report.turns.items
