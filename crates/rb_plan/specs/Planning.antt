-- What is planned for a goal.
use Rattle.std.specs.Prelude.{◌≡◌, ℕ, Option, Some, None, MatchOption}
use Rattle.rb_script_types.specs.declared.goal.Goal.{Goal}
use Rattle.rb_plan_types.specs.Labelling.{IsLabelling, IsExact, label_of}
use Rattle.rb_plan_types.specs.Least.{IsUnreachable}
use Rattle.rb_step.specs.View.{client_of}
use Rattle.rb_plan_client.specs.Draft.{Planned, IsPlan}
use Rattle.rb_plan_client.specs.Task.{Task, view_of}

-- the goal, the exact labelling, and the plan, where the client can be brought to this height at most; none where the goal can't be reached
pub record IsPlannedFor (t : Task) (reach : Option ℕ) (g : Goal) (p : Planned) : Type 0 where
  pub goal : p.goal ≡ g
  pub labels : IsLabelling p.labels
  pub exact : IsExact (client_of (view_of t)) (label_of p.labels)
  pub plan : MatchOption p.plan (IsUnreachable (client_of (view_of t)) g) (IsPlan t reach g)

-- what is planned for a goal, if there is one
abbrev pub IsPlannedIf : Task → Option ℕ → Option Goal → Option Planned → Type 0
IsPlannedIf t reach None None = Unit {0}
IsPlannedIf t reach None (Some p) = ⊥
IsPlannedIf t reach (Some g) None = ⊥
IsPlannedIf t reach (Some g) (Some p) = IsPlannedFor t reach g p
