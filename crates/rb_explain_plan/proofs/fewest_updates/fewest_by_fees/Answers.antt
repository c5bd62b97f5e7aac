use Rattle.rb_explain_plan.proofs.Shifted.{by_bound}
use Rattle.rb_explain_plan.proofs.fewest_updates.fewest_by_fees.Goals as goal

pub returns-in_ok-updates-in-Some-clause-fewest : goal.returns-in_ok-updates-in-Some-clause-fewest
returns-in_ok-updates-in-Some-clause-fewest g c =
    (by_bound c.args.view.now c.args.goal c.args.least.now c.in_ok-updates-in-Some.updates.items c.most_for_one.result c.past_any-more.result c.fees.result c.in-Some.fees c.fees.ensures c.in-Some.ensures.raised
    c.past_any-more.ensures c.most_for_one.ensures.most c.requires.least c.in_ok-updates-in-Some.ensures).fewest

pub returns-in_ok-updates-in-Some-clause-cheapest : goal.returns-in_ok-updates-in-Some-clause-cheapest
returns-in_ok-updates-in-Some-clause-cheapest g c = λ _.
    (by_bound c.args.view.now c.args.goal c.args.least.now c.in_ok-updates-in-Some.updates.items c.most_for_one.result c.past_any-more.result c.fees.result c.in-Some.fees c.fees.ensures c.in-Some.ensures.raised
    c.past_any-more.ensures c.most_for_one.ensures.most c.requires.least c.in_ok-updates-in-Some.ensures).cheapest
