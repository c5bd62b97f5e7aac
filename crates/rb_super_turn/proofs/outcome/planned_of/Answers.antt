use Rattle.std.proofs.Common.{Option, ◌<◌, ◌^◌, sym, subst}
use Rattle.std.specs.Option.{IfSome}
use Rattle.rb_plan_client.specs.Draft.{Plan}
use Rattle.rb_step.specs.LightClient.{total_fee}
use Rattle.rb_step.specs.View.{client_of}
use Rattle.rb_plan_client.specs.Task.{view_of}
use Rattle.rb_super_turn.proofs.Prices.{plan_is_small}
use Rattle.rb_super_turn.proofs.outcome.planned_of.Goals as goal

pub plan_if-requires : goal.plan_if-requires
plan_if-requires g c =
    subst (λ (o : Option Plan). IfSome o (λ (p : Plan). total_fee (client_of (view_of c.args.job.now.task)) p.updates < 2 ^ 63)) (sym c.plan.ensures)
    (plan_is_small c.args.job.now.task c.args.planned.now c.requires)
