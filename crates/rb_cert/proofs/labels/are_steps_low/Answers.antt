use Rattle.std.proofs.Common.{◌≡◌, ◌∙◌, ◌+◌, ◌-◌, ◌/◌, ◌<◌, ℕ, List, length, get_or, ap, sym, refl, subst, arith}
use Rattle.std.proofs.lemmas.List.FromFn.{get_or-range_with_len, length-range_with_len}
use Rattle.rayon.specs.Numbers.{nat_range}
use Rattle.rb_book.specs.Book.{Book}
use Rattle.rb_plan_types.specs.Labelling.{label_of}
use Rattle.rb_cert.specs.Checks.{IsLowAt}
use Rattle.rb_cert.proofs.Pairs.{when_true, all_low}
use Rattle.rb_cert.proofs.labels.are_steps_low.Goals as goal

pub returns : goal.returns
returns g c says =
    let v = c.args.view.now in
    let label = label_of c.args.labelling.now in
    let n = length c.headers-count.result.now in
    let same : n ≡ length v.book.headers = ap length (c.headers-count.ensures.value ∙ ap (λ (b : Book). b.headers) c.book.ensures.value) in
    let e = c.all.ensures in
    let ends = c.into_par_iter.ensures in
    let first : e.0 ≡ nat_range c.into_par_iter.result.start c.into_par_iter.result.end = rw (c.with_min_len.ensures.base) at e.1 in
    let items : e.0 ≡ nat_range 0 (n - n / 2) = first ∙ (λ i. nat_range (ends.0 i) (ends.1 i)) in
    let whole : n - n / 2 - 0 ≡ n - n / 2 = omega arith in
    let many : length e.0 ≡ n - n / 2 = ap length items ∙ length-range_with_len 0 (n - n / 2 - 0) ∙ whole in
    let steps = when_true _ _ c.all.result e.2 says in
    all_low v c.book.ensures.view label n (sym same) (λ i lt.
    let back : 0 + i ≡ i = omega arith in
    let at : get_or e.0 i 0 ≡ i = ap (λ (xs : List ℕ). get_or xs i 0) items ∙ get_or-range_with_len 0 (n - n / 2 - 0) i 0 (omega (arith, whole, lt)) ∙ back in
    let pair : IsLowAt v label (get_or e.0 i 0) × IsLowAt v label (c.saturating_sub-last.result - get_or e.0 i 0) = steps i 0 (omega (arith, many, lt)) refl in
    subst (λ (k : ℕ). IsLowAt v label k × IsLowAt v label (n - 1 - k)) at (rw c.saturating_sub-last.ensures at pair))
