use Rattle.std.proofs.Common.{ℕ, ltb, rules}
use Rattle.std.proofs.lemmas.List.Sorted.{answers_always}
use Rattle.rb_scan.proofs.Rising.{rises-from_neighbours}
use Rattle.rb_scan.proofs.path.heights_rise.Goals as goal

pub returns : goal.returns
returns c =
    rises-from_neighbours (λ (x : ℕ × ℕ). x.0) c.args.records.now c.is_sorted_by.result
    (c.is_sorted_by.ensures.cases (λ a b. ltb a.0 b.0) (answers_always _ _ _ (λ f a r q h. search rules)))
