use Rattle.std.proofs.Common.{arith}
use Rattle.rb_explain_plan.proofs.Shifted.{itself, by_fee}
use Rattle.rb_explain_plan.proofs.fewest_updates.is_fewest.Goals as goal

pub returns-then-least-le1 : goal.returns-then-least-le1
returns-then-least-le1 g c = λ _. (itself c.args.view.now c.args.goal.now c.args.least.now c.requires (omega arith)).fewest

pub returns : goal.returns
returns g c = λ is.
    let dear = c.fewer_cost_no_more.ensures is in
    let fee = c.total_fee-fee.ensures.value in
    by_fee c.args.view.now c.args.goal.now c.args.least.now c.most_for_one.result c.most_for_one.ensures.most (omega (arith, dear, fee)) c.requires
