use Rattle.std.proofs.Common.{◌+◌, List, subst, sym, ap, ◌∙◌}
use Rattle.rb_step.specs.LightClient.{Update, total_fee}
use Rattle.rb_step.specs.View.{client_of}
use Rattle.rb_explain_plan.specs.Fewest.{IsFewest}
use Rattle.rb_explain_plan.proofs.Shifted.{by_few}
use Rattle.rb_explain_plan.proofs.fewest_updates.fewest_by_few.Goals as goal

pub returns-in_ok-updates-in-Some-clause-fewest : goal.returns-in_ok-updates-in-Some-clause-fewest
returns-in_ok-updates-in-Some-clause-fewest g c =
    let v = c.args.view.now in
    (by_few v c.args.goal c.priced-few.result.updates.items c.in_ok-updates-in-Some.updates.items (c.priced-few.result.fee + 1) c.fees.result c.in-Some.fees c.fees.ensures c.in-Some.ensures.raised
    (ap (λ n. n + 1) (c.priced-few.ensures.fee ∙ ap (total_fee (client_of v)) (sym c.priced-few.ensures.updates)))
    (subst (λ (us : List Update). IsFewest (client_of v) c.args.goal us) (sym c.priced-few.ensures.updates) c.in_ok-fewest_at_any_fee.ensures) c.in_ok-updates-in-Some.ensures).fewest

pub returns-in_ok-updates-in-Some-clause-cheapest : goal.returns-in_ok-updates-in-Some-clause-cheapest
returns-in_ok-updates-in-Some-clause-cheapest g c = λ _.
    let v = c.args.view.now in
    (by_few v c.args.goal c.priced-few.result.updates.items c.in_ok-updates-in-Some.updates.items (c.priced-few.result.fee + 1) c.fees.result c.in-Some.fees c.fees.ensures c.in-Some.ensures.raised
    (ap (λ n. n + 1) (c.priced-few.ensures.fee ∙ ap (total_fee (client_of v)) (sym c.priced-few.ensures.updates)))
    (subst (λ (us : List Update). IsFewest (client_of v) c.args.goal us) (sym c.priced-few.ensures.updates) c.in_ok-fewest_at_any_fee.ensures) c.in_ok-updates-in-Some.ensures).cheapest
