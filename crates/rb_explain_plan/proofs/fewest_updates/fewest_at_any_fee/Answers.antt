use Rattle.std.proofs.Common.{subst}
use Rattle.rb_base.specs.Fee.{Fees}
use Rattle.rb_plan_types.specs.Least.{IsLeast}
use Rattle.rb_step.specs.View.{client_of}
use Rattle.rb_explain_plan.proofs.Shifted.{with_fees, fewest_by_free}
use Rattle.rb_explain_plan.proofs.fewest_updates.fewest_at_any_fee.Goals as goal

pub returns : goal.returns
returns g c =
    let v = c.args.view.now in
    fewest_by_free v v.fees c.args.goal c.in_ok-updates.updates.items
    (subst (λ (f : Fees). IsLeast (client_of (with_fees v f)) c.args.goal c.in_ok-updates.updates.items) c.in-Ok.ensures.ok.1 c.in_ok-updates.ensures)
