-- Where a message presses, the client is updated (own choice).
use Rattle.std.specs.Prelude.{◌≡◌, ◌≢◌, ℕ, true, [], Option, Some}
use Rattle.rb_step.specs.View.{IsView, client_of}
use Rattle.rb_plan_client.specs.Draft.{Plan, Planned, IsPlanned}
use Rattle.rb_plan_client.specs.Reach.{IsReach}
use Rattle.rb_plan_client.specs.Task.{Task, view_of, presses}
use Rattle.rb_super.specs.Pressing.{KeepsNoneBack}

-- the plan has updates where a message presses, and what was asked for keeps no message back: what presses can't be proved without one
abbrev pub PressingUpdates : Type 0
PressingUpdates =
    (t : Task) (reach : Option ℕ) (a : Planned) (p : Plan) → IsView (view_of t) → IsReach (client_of (view_of t)) reach → KeepsNoneBack t.asked t.config.refresh_to → presses t reach ≡ true
    → IsPlanned t a → a.plan ≡ Some p → p.updates ≢ []
