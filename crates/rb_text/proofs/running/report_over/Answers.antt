use Rattle.rb_script_types.specs.Script.{script_view}
use Rattle.rb_text.proofs.Reports.{writes-this, begins-of-bytes}
use Rattle.rb_text.proofs.running.report_over.Goals as goal

-- the report that was written is the one that is answered
pub returns-clause-report : goal.returns-clause-report
returns-clause-report g c = writes-this _ (script_view c.in_ok-script.script) _ _ _ c.in_ok-script.ensures.read c.write_report_of.ensures.report

pub returns-clause-begun : goal.returns-clause-begun
returns-clause-begun g c = begins-of-bytes _ (script_view c.in_ok-script.script) _ _ _ _ c.in_ok-script.ensures.read c.write_report_of.ensures.begun
