use Rattle.std.proofs.Common.{List, subst, sym}
use Rattle.rb_step.specs.LightClient.{Update}
use Rattle.rb_step.specs.View.{client_of}
use Rattle.rb_explain_plan.specs.Fewest.{IsFewest, IsCheapestOfFewest}
use Rattle.rb_explain_plan.proofs.Shifted.{least_is_cheapest}
use Rattle.rb_explain_plan.proofs.fewest_updates.fewest.Goals as goal

pub returns-then-is_fewest-clause-fewest : goal.returns-then-is_fewest-clause-fewest
returns-then-is_fewest-clause-fewest g c =
    subst (λ (us : List Update). IsFewest (client_of c.args.view.now) c.args.goal us) (sym c.in_ok-updates.ensures.items) (c.is_fewest.ensures c.if-is_fewest.true)

pub returns-then-is_fewest-clause-cheapest : goal.returns-then-is_fewest-clause-cheapest
returns-then-is_fewest-clause-cheapest g c = λ _.
    subst (λ (us : List Update). IsCheapestOfFewest (client_of c.args.view.now) c.args.goal us) (sym c.in_ok-updates.ensures.items)
    (least_is_cheapest (client_of c.args.view.now) c.args.goal c.args.least.now c.requires.least)
