use Rattle.std.proofs.Common.{◌<◌, ◌^◌, List, length, map, sum_by, sym, ap, ◌∙◌, subst}
use Rattle.rb_super_turn.specs.declared.report.PricedUpdate.{PricedUpdate as CodePriced}
use Rattle.rb_super_turn.specs.Turns.{priced, numbered}
use Rattle.rb_super_turn.proofs.Prices.{fees_fit, plan_told}
use Rattle.rb_super_turn.proofs.outcome.plan_of.Goals as goal

pub total_of-total-requires : goal.total_of-total-requires
total_of-total-requires g c =
    let t = c.args.job.now.task in
    let same = c.in_ok-priced.ensures ∙ ap (map (priced t)) c.updates-updates.ensures in
    subst (λ (ps : List (CodePriced _)). sum_by (λ (u : CodePriced _). u.fee) ps < 2 ^ 64) (sym c.as_slice.ensures.value)
    (fees_fit t c.args.plan.now.updates c.in_ok-priced.priced.items same c.requires)

pub returns : goal.returns
returns g c =
    let t = c.args.job.now.task in
    let same = c.in_ok-priced.ensures ∙ ap (map (priced t)) c.updates-updates.ensures in
    plan_told t c.args.number c.args.plan.now c.in_ok-priced.priced.items c.total_of-total.result c.in_ok-messages.messages.items _ same
    (c.total_of-total.ensures.fee ∙ ap (sum_by (λ (u : CodePriced _). u.fee)) c.as_slice.ensures.value)
    (c.total_of-total.ensures.count ∙ ap length c.as_slice.ensures.value)
    (c.in_ok-messages.ensures.items ∙ c.messages.ensures)
    (c.in_ok-sending.ensures ∙ ap (numbered c.args.number) c.sending.ensures)
