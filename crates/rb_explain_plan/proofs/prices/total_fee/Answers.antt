use Rattle.std.proofs.Common.{◌≡◌, ◌+◌, ℕ, sum_by, get_or, take, ap, ◌∙◌, arith}
use Rattle.std.proofs.lemmas.List.{take_all}
use Rattle.std.proofs.lemmas.List.Sums.{sum_by_more}
use Rattle.rb_step.specs.LightClient.{Update, total_fee}
use Rattle.rb_step.specs.View.{client_of}
use Rattle.rb_explain_plan.proofs.prices.total_fee.Goals as goal

pub loop-update-preserved : goal.loop-update-preserved
loop-update-preserved g c =
    let us = c.args.updates.now in
    let n = c.loop-update.update-index in
    let u = c.update-item.result in
    let fee : Update → ℕ = λ w. (client_of c.args.view.now).fee w.trusted w.height in
    let more : sum_by fee (take (n + 1) us) ≡ sum_by fee (take n us) + fee (get_or us n u) = sum_by_more fee us n u c.loop-update-test.true in
    let here : fee u ≡ fee (get_or us n u) = ap fee c.update-item.is in
    let one : c.fee.result ≡ fee u = c.fee.ensures.value ∙ ap (λ t. (client_of c.args.view.now).fee t c.height.result) c.trusted.ensures ∙ ap (λ h. (client_of c.args.view.now).fee u.trusted h) c.height.ensures in
    let so_far : c.loop-update.total ≡ sum_by fee (take n us) = c.loop-update.invariant.0 in
    let low = c.loop-update.invariant.1 in
    let small = c.fee.ensures.bound in
    (omega arith, omega arith)

pub returns-clause-value : goal.returns-clause-value
returns-clause-value g c =
    let all = take_all c.loop-update.update-index c.args.updates.now (omega arith) in
    c.loop-update.invariant.0 ∙ ap (total_fee (client_of c.args.view.now)) all
