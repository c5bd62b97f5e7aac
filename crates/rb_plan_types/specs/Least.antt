-- the list of updates that a planner looks for
use Rattle.std.specs.Prelude.{List}
use Rattle.rb_step.specs.LightClient.{Update, Client, IsAcceptable}
use Rattle.rb_script_types.specs.declared.goal.Goal.{Goal}
use Rattle.rb_plan_types.specs.Goal.{Meets}
use Rattle.rb_plan_types.specs.Order.{PrecedesList}

-- the first of the acceptable lists that meet the goal
pub record IsLeast (client : Client) (goal : Goal) (us : List Update) : Type 0 where
  pub acceptable : IsAcceptable client us
  pub meets : Meets client goal us
  pub least : (vs : List Update) → IsAcceptable client vs → Meets client goal vs → PrecedesList client vs us → ⊥

-- no acceptable list meets the goal
abbrev pub IsUnreachable : Client → Goal → Type 0
IsUnreachable client goal = (us : List Update) → IsAcceptable client us → Meets client goal us → ⊥
