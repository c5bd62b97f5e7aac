-- The list of updates with the fewest of them (own choice: the fee decides among equals).
use Rattle.std.specs.Prelude.{◌≤◌, List, length}
use Rattle.rb_step.specs.LightClient.{Update, Client, IsAcceptable, total_fee}
use Rattle.rb_script_types.specs.declared.goal.Goal.{Goal}
use Rattle.rb_plan_types.specs.Goal.{Meets}

-- an acceptable list that meets the goal, and none that does has fewer updates
pub record IsFewest (client : Client) (goal : Goal) (us : List Update) : Type 0 where
  pub acceptable : IsAcceptable client us
  pub meets : Meets client goal us
  pub fewest : (vs : List Update) → IsAcceptable client vs → Meets client goal vs → length us ≤ length vs

-- none that does with as few updates costs less
abbrev pub IsCheapestOfFewest : Client → Goal → List Update → Type 0
IsCheapestOfFewest client goal us =
    (vs : List Update) → IsAcceptable client vs → Meets client goal vs → length vs ≤ length us → total_fee client us ≤ total_fee client vs
