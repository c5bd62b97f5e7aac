use Rattle.std.proofs.Common.{◌≡◌, ◌==◌, ◌-◌, ℕ, List, length, drop, rules, sym, ap, subst, ◌∙◌}
use Rattle.std.specs.List.{dedup}
use Rattle.std.specs.List.Sorted.{IsStrictlyIncreasing}
use Rattle.std.proofs.lemmas.List.Filters.{dedup_is}
use Rattle.std.proofs.lemmas.Map.Keys.{IsStrictlyIncreasing-dedup}
use Rattle.rb_import_merge.proofs.Highest.{end_rises}
use Rattle.rb_import_merge.proofs.Naming.{keeps_highest, same_places}
use Rattle.rb_import_merge.proofs.sets.highest_of.Goals as goal

pub invariant_of-result : goal.invariant_of-result
invariant_of-result c =
    let end : c.in_ok-places.places.items ≡ drop c.saturating_sub-left_out.result c.dedup.new.self.items = search rules in
    let is = dedup_is _ _ _ c.dedup.ensures.filtered in
    let rises : IsStrictlyIncreasing c.dedup.new.self.items = rw is (IsStrictlyIncreasing-dedup _ c.sort_unstable.ensures.sorted) in
    record { rising = subst IsStrictlyIncreasing (sym end) (end_rises c.saturating_sub-left_out.result c.dedup.new.self.items rises) }

pub returns : goal.returns
returns c =
    let all : List ℕ = c.dedup.new.self.items in
    let is : all ≡ dedup (λ (x y : ℕ). x == y) c.sort_unstable.new.self.items = dedup_is _ _ _ c.dedup.ensures.filtered in
    let rises : IsStrictlyIncreasing all = rw is (IsStrictlyIncreasing-dedup _ c.sort_unstable.ensures.sorted) in
    let left : c.saturating_sub-left_out.result ≡ length all - 1024 = search rules in
    let end : c.in_ok-places.places.items ≡ drop c.saturating_sub-left_out.result all = search rules in
    keeps_highest c.args.named.items all _ rises (same_places c.args.named.items c.sort_unstable.new.self.items all c.sort_unstable.ensures.permutation is) (end ∙ ap (λ n. drop n all) left, left)
