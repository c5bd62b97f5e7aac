use Rattle.std.proofs.Common.{◌≡◌, ◌∙◌, ◌+◌, ◌-◌, ◌<◌, List, ℕ, length, get_or, sym, subst, ap, arith}
use Rattle.rb_step.specs.View.{client_of}
use Rattle.rb_plan_types.specs.ProofHeight.{IsLaterLive}
use Rattle.rb_plan_types.proofs.Tops.{IsTopOfStored, top_stored_none, top_stored_more, top_after_more, stored_of_view}
use Rattle.rb_plan_types.proofs.batch.proof_height.Goals as goal

pub loop-place-init : goal.loop-place-init
loop-place-init g c =
    let client = client_of c.args.view.now in
    let same : c.stored-stored.result.now ≡ client.stored = c.stored-stored.ensures.value ∙ sym (stored_of_view c.args.view.now) in
    top_stored_none client client.stored _ (omega (arith, ap length same))

pub loop-place-preserved : goal.loop-place-preserved
loop-place-preserved g c =
    let client = client_of c.args.view.now in
    let n = c.loop-place.place - 1 in
    let h = c.index-stored-place.result in
    let same : c.stored-stored.result.now ≡ client.stored = c.stored-stored.ensures.value ∙ sym (stored_of_view c.args.view.now) in
    let inside : n < length client.stored = omega (arith, ap length same) in
    let here : n + 1 ≡ c.loop-place.place = omega arith in
    top_stored_more client client.stored n h c.loop-place.top c.later_live-top.result inside (c.index-stored-place.is ∙ ap (λ (xs : List ℕ). get_or xs n h) same) c.later_live-top.ensures
    (subst (λ (i : ℕ). IsTopOfStored client client.stored i c.loop-place.top) (sym here) c.loop-place.invariant)

pub loop-update-init : goal.loop-update-init
loop-update-init g c =
    let client = client_of c.args.view.now in
    let start : c.loop-place.place ≡ 0 = omega arith in
    subst (λ (i : ℕ). IsTopOfStored client client.stored i c.loop-place.top) start c.loop-place.invariant

pub loop-update-preserved : goal.loop-update-preserved
loop-update-preserved g c =
    let client = client_of c.args.view.now in
    top_after_more client c.args.updates.now c.loop-update.update-index c.update-item.result c.loop-update.top c.later_live-top-in-loop-update.result c.loop-update-test.true c.update-item.is
    (subst (λ (h : ℕ). IsLaterLive client c.loop-update.top h c.later_live-top-in-loop-update.result) c.height.ensures c.later_live-top-in-loop-update.ensures) c.loop-update.invariant
