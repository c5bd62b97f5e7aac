use Rattle.std.proofs.Common.{◌+◌, ◌-◌, ◌<◌, ℕ, List, [], length, get_or, take, sum, sym, ap, subst, ◌∙◌, arith}
use Rattle.std.proofs.lemmas.List.{length-replicate, length-set}
use Rattle.std.proofs.lemmas.List.Sums.{sum_by_more}
use Rattle.rb_lanes.specs.Lanes.{IsSpread}
use Rattle.rb_lanes.proofs.Masked.{sum-raised, sum-zeros, spread-zeros, spread-more}
use Rattle.rb_lanes.proofs.tally.powers_of.Goals as goal

pub loop-column-init : goal.loop-column-init
loop-column-init g c =
    let n : ℕ = c.args.end - c.args.first in
    let e = c.in_ok-powers.ensures in
    record {
      long = ap (λ (l : List ℕ). length l) e ∙ length-replicate {A = ℕ} n 0;
      whole = ap (λ (l : List ℕ). sum l) e ∙ sum-zeros n;
      spread = subst (λ (l : List ℕ). IsSpread l c.args.first []) (sym e) (spread-zeros n c.args.first);
    }

pub loop-column-preserved : goal.loop-column-preserved
loop-column-preserved g c =
    let ms = c.args.members.now in
    let i = c.loop-column.column-index in
    let ps = c.loop-column.powers in
    let first : ℕ = c.args.first in
    let column : ℕ = (get_or ms i (0, 0)).0 in
    let x : ℕ = (get_or ms i (0, 0)).1 in
    let within = c.requires.columns i (0, 0) (omega arith) in
    let high : column - first < length ps = omega (arith, within.0, within.1, c.loop-column.invariant.long) in
    let e = c.add.ensures in
    record {
      long = ap (λ (l : List ℕ). length l) e ∙ length-set ps (column - first) (get_or ps (column - first) 0 + x) ∙ c.loop-column.invariant.long;
      whole = ap (λ (l : List ℕ). sum l) e ∙ sum-raised (column - first) x ps high ∙ ap (λ (n : ℕ). n + x) c.loop-column.invariant.whole ∙ sym (sum_by_more (λ (m : ℕ × ℕ). m.1) ms i (0, 0) (omega arith));
      spread = subst (λ (l : List ℕ). IsSpread l first (take (i + 1) ms)) (sym e) (spread-more ps first i ms (0, 0) (omega arith) within.0 high c.loop-column.invariant.spread);
    }
