use Rattle.std.proofs.Common.{refl}
use Rattle.ibcplan.proofs.perform.plan.Goals as goal
use Rattle.rb_super_turn.specs.Views.{report_view}

-- the report that was written is the one that is looked at
pub returns-in-Ok-write_report_of-clause-done : goal.returns-in-Ok-write_report_of-clause-done
returns-in-Ok-write_report_of-clause-done g c =
    let writes = c.in-Ok-write_report_of.ensures.report in
    record {
      report = report_view c.in-Ok-write_report_of.report;
      writes = record { kept = writes.kept; reported = writes.reported; chains = refl; paths = refl; written = writes.written };
      ends = c.plan_status.ensures;
      counts = c.refused_events.ensures;
    }
