-- Laws of reports and of verdicts.
use Rattle.std.specs.Prelude.{◌≡◌, ℕ, List, Option}
use Rattle.rb_cert.specs.declared.verdict.Judgement.{Judgement}
use Rattle.rb_plan_types.specs.Labelling.{Labels}
use Rattle.rb_core_model.specs.Standing.{ClientState, Standing}
use Rattle.rb_step.specs.LightClient.{Update}
use Rattle.rb_step.specs.View.{IsView}
use Rattle.rb_super_turn.specs.Judging.{IsVerdictOn, IsPlanPhase, IsClientIn}
use Rattle.rb_plan_client.specs.Task.{Task, view_of}
use Rattle.rb_super_turn.specs.Report.{Report}
use Rattle.rb_super_turn.specs.Script.{Script, IsScript}
use Rattle.rb_super_turn.specs.Turns.{IsReportOf}

-- two reports of one script are one
abbrev pub ReportIsOne : Type 0
ReportIsOne = (s : Script) (r q : Report) → IsReportOf s r → IsReportOf s q → r ≡ q

-- two verdicts on one answer for a script's client in a turn are one: a yes, a no with its reason, or none
abbrev pub VerdictIsOne : Type 0
VerdictIsOne =
    (s : Script) (turn client : ℕ) (labels : Labels) (claim : Option (List Update)) (v w : Option Judgement)
    → IsVerdictOn s turn client labels claim v → IsVerdictOn s turn client labels claim w → v ≡ w

-- what a script's client is planned by in a turn keeps what every view keeps: so the laws of views hold of it
abbrev pub PlannedViewsAreViews : Type 0
PlannedViewsAreViews =
    (script : Script) → IsScript script → (turn client : ℕ) (s : Standing) (known : ClientState) (task : Task)
    → IsPlanPhase script turn s → IsClientIn s client known task → IsView (view_of task)
