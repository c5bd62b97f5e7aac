use Rattle.std.proofs.Common.{◌≡◌, IfOk, ℕ, Option, subst}
use Rattle.rb_plan_client.specs.Task.{first_beyond}
use Rattle.rb_plan_client.proofs.waiting.first_press.Goals as goal

pub returns : goal.returns
returns g c =
    subst (λ (low : Option ℕ). IfOk c.first_beyond.result (λ first. first ≡ first_beyond c.args.job.now.task low c.args.reach.now))
    c.near_reach.ensures c.first_beyond.ensures
