-- Steps, each explained.
use Rattle.std.specs.Prelude.{◌≡◌, ℕ, Option, Some, None}
use Rattle.rb_step.specs.LightClient.{Update}
use Rattle.rb_step.specs.View.{View}
use Rattle.rb_explain_plan.specs.Step.{IsExplained}
use Rattle.rb_explain_plan.specs.declared.step.StepExplanation.{StepExplanation}

-- the step of an update is explained
abbrev pub IsExplainedUpdate : View → Update → Option StepExplanation → Type 0
IsExplainedUpdate v u = IsExplained v u.trusted u.height

-- the step from one height to another is, where there are both
abbrev pub IsDirect : View → Option ℕ → Option ℕ → Option StepExplanation → Type 0
IsDirect v None to o = o ≡ None
IsDirect v (Some from) None o = o ≡ None
IsDirect v (Some from) (Some to) o = IsExplained v from to o
