use Rattle.std.proofs.Common.{◌≡◌, ℕ, zero, suc, ◌+◌, List, [], ◌∷◌, ◌++◌, arith, ap, ◌∙◌}
use Rattle.std.specs.List.{range_with_len}
use Rattle.rb_graph.proofs.numbers.places_by_naming.Goals as goal

range_push : (a n b : ℕ) → b ≡ a + n → range_with_len a n ++ b ∷ [] ≡ range_with_len a (suc n)
range_push a zero b e = let same : b ≡ a = omega arith in ap (λ (k : ℕ). k ∷ []) same
range_push a (suc n) b e = ap (λ ks. a ∷ ks) (range_push (a + 1) n b (omega arith))

-- one more place
places_push : (places more : List ℕ) (n : ℕ) → places ≡ range_with_len 0 n → more ≡ places ++ n ∷ [] → more ≡ range_with_len 0 (n + 1)
places_push places more n e f =
    let next : suc n ≡ n + 1 = omega arith in
    f ∙ ap (λ ks. ks ++ n ∷ []) e ∙ range_push 0 n n (omega arith) ∙ ap (range_with_len 0) next

pub loop-place-preserved : goal.loop-place-preserved
loop-place-preserved g c = places_push _ _ c.loop-place.place c.loop-place.invariant c.in_ok-push.ensures.items

pub returns : goal.returns
returns g c =
    let last : c.loop-place.place ≡ c.args.count = omega arith in
    rw (← last, ← c.loop-place.invariant) c.sort_unstable_by_key.ensures.permutation
