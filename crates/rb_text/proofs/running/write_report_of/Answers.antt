use Rattle.std.proofs.Common.{rules}
use Rattle.rb_super_turn.specs.Views.{report_view}
use Rattle.rb_text.proofs.running.write_report_of.Goals as goal

-- the report that was written is the one that is answered
pub returns-clause-report : goal.returns-clause-report
returns-clause-report g c = record {
  kept = c.report_by.ensures.kept;
  reported = c.in_ok-report.ensures.turns;
  chains = c.in_ok-report.ensures.chains;
  paths = c.in_ok-report.ensures.paths;
  written = search rules;
}
