use Rattle.std.proofs.Common.{◌≡◌, ◌+◌, ◌≤◌, ℕ, List, length, fold, take, vec_len, vec_capacity, sym, ap, ◌∙◌, arith}
use Rattle.std.proofs.lemmas.List.Sums.{fold_more}
use Rattle.rb_step.specs.LightClient.{Update}
use Rattle.rb_core_model.specs.Standing.{with_height}
use Rattle.rb_core_state.proofs.client.put_heights.Goals as goal

pub loop-update-preserved : goal.loop-update-preserved
loop-update-preserved g c =
    let store : List ℕ → Update → List ℕ = λ heights u. with_height u.height heights in
    let us = c.args.updates.now in
    let i = c.loop-update.update-index in
    let u = c.update-item.result in
    let more : fold store c.args.heights.now.items (take (i + 1) us) ≡ store (fold store c.args.heights.now.items (take i us)) u =
    fold_more store c.args.heights.now.items us i u c.loop-update-test.true ∙ ap (store (fold store c.args.heights.now.items (take i us))) (sym c.update-item.is) in
    record {
      items = c.put_height.ensures.items ∙ (λ j. with_height (c.height.ensures j) (c.loop-update.invariant.items j)) ∙ sym more;
      rising = c.put_height.ensures.rising;
      room = omega arith;
    }
