use Rattle.std.proofs.Common.{◌≡◌, ◌*◌, ◌≤◌, take}
use Rattle.rb_step.specs.LightClient.{total_fee}
use Rattle.rb_step.specs.View.{client_of}
use Rattle.rb_explain_plan.proofs.prices.total_fee.Given as goal

abbrev pub invariant-loop-update : goal.invariant-loop-update
invariant-loop-update g l = (l.total ≡ total_fee (client_of l.view) (take l.update-index l.updates)) × (l.total ≤ 35184372088832 * l.update-index)
