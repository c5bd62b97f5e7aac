use Rattle.std.proofs.Common.{◌≡◌, ◌==◌, ◌⊎◌, ℕ, ◌-◌, List, length, drop, rules, sym, ap, subst, ◌∙◌, All, Contains}
use Rattle.std.specs.List.{dedup}
use Rattle.std.specs.List.Sorted.{IsStrictlyIncreasing}
use Rattle.std.proofs.lemmas.List.Filters.{dedup_is}
use Rattle.std.proofs.lemmas.Map.Keys.{IsStrictlyIncreasing-dedup}
use Rattle.std.proofs.lemmas.Result.{IfOk-weaker}
use Rattle.rb_import_merge.specs.Room.{HasNoRoom}
use Rattle.rb_import_merge.proofs.Highest.{end_rises, end_highest, end_highest_of, end_given}
use Rattle.rb_import_merge.proofs.room.highest.Goals as goal

pub returns-clause-rising : goal.returns-clause-rising
returns-clause-rising c =
    let is = dedup_is _ _ _ c.dedup.ensures.filtered in
    let rises : IsStrictlyIncreasing c.dedup.new.self.items = rw is (IsStrictlyIncreasing-dedup _ c.sort_unstable.ensures.sorted) in
    IfOk-weaker c.from_slice.result (λ v. v.items ≡ drop c.saturating_sub-left_out.result c.dedup.new.self.items) (λ v. IsStrictlyIncreasing v.items)
    (λ v same. subst IsStrictlyIncreasing (sym same) (end_rises c.saturating_sub-left_out.result c.dedup.new.self.items rises)) (search rules)

pub returns-clause-same : goal.returns-clause-same
returns-clause-same c =
    let is = dedup_is _ _ _ c.dedup.ensures.filtered in
    let given : All (Contains c.args.heights.items) (drop c.saturating_sub-left_out.result c.dedup.new.self.items) = rw is (end_given c.saturating_sub-left_out.result c.args.heights.items c.sort_unstable.new.self.items c.sort_unstable.ensures.permutation) in
    IfOk-weaker c.from_slice.result (λ v. v.items ≡ drop c.saturating_sub-left_out.result c.dedup.new.self.items) (λ v. All (Contains c.args.heights.items) v.items)
    (λ v same. subst (All (Contains c.args.heights.items)) (sym same) given) (search rules)

pub returns-clause-highest : goal.returns-clause-highest
returns-clause-highest c =
    let n : ℕ = c.saturating_sub-left_out.result in
    let is : c.dedup.new.self.items ≡ dedup (λ (x y : ℕ). x == y) c.sort_unstable.new.self.items = dedup_is _ _ _ c.dedup.ensures.filtered in
    let rises : IsStrictlyIncreasing (dedup (λ (x y : ℕ). x == y) c.sort_unstable.new.self.items) = IsStrictlyIncreasing-dedup _ c.sort_unstable.ensures.sorted in
    let Fits : List ℕ → ℕ → Type 0 = λ kept h. Contains kept h ⊎ HasNoRoom c.args.room kept h in
    let all = end_highest_of (Fits (drop n (dedup (λ (x y : ℕ). x == y) c.sort_unstable.new.self.items))) c.args.heights.items c.sort_unstable.new.self.items c.sort_unstable.ensures.permutation
    (end_highest n c.args.room (dedup (λ (x y : ℕ). x == y) c.sort_unstable.new.self.items) rises (subst (λ l. n ≡ length l - c.args.room) is (search rules))) in
    IfOk-weaker c.from_slice.result (λ v. v.items ≡ drop n c.dedup.new.self.items) (λ v. All (Fits v.items) c.args.heights.items)
    (λ v same. subst (λ l. All (Fits l) c.args.heights.items) (sym (same ∙ ap (drop n) is)) all) (search rules)
