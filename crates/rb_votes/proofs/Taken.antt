-- the definitions by places: what the functions compute
use Rattle.std.proofs.Common.{◌≡◌, ℕ, zero, suc, ◌+◌, ◌-◌, eqb, List, [], ◌∷◌, ◌++◌, length, take, drop, refl, sym, ap, ◌∙◌, subst, arith}
use Rattle.std.specs.List.{sum_by}
use Rattle.std.specs.List.Sorted.{IsPermutation}
use Rattle.std.proofs.lemmas.Bool.{cond_both}
use Rattle.std.proofs.lemmas.List.{take_all}
use Rattle.std.proofs.lemmas.List.Sorted.{IsPermutation-sym}
use Rattle.rb_votes.specs.declared.voter.Voter.{Voter}
use Rattle.rb_votes.specs.Places.{StandByPlace}
use Rattle.rb_votes.specs.Votes.{falling, rising, least_prefix, fewest_then}
use Rattle.rb_votes.proofs.Orders.{rising_same}
use Rattle.rb_votes.proofs.Prefixes.{prefix_none}
use Rattle.rb_votes.proofs.Others.{others_stand}

split_take : (n m : ℕ) (vs : List Voter) → take (n + m) vs ≡ take n vs ++ take m (drop n vs)
split_take zero m vs = ap (λ k. take k vs) (omega arith)
split_take (suc n) m [] = take_all (suc n + m) [] (omega arith) ∙ sym (take_all m [] (omega arith))
split_take (suc n) m (v ∷ vs) = let on : suc n + m ≡ suc (n + m) = omega arith in ap (λ k. take k (v ∷ vs)) on ∙ ap (λ ws. v ∷ ws) (split_take n m vs)

module _ (f : Voter → ℕ) where
  prefix_taken : (needed : ℕ) (vs : List Voter) → take (length (least_prefix f needed vs)) vs ≡ least_prefix f needed vs
  prefix_taken needed [] = refl
  prefix_taken needed (v ∷ vs) =
      cond_both (eqb needed 0) [] (v ∷ least_prefix f (needed - f v) vs) (λ ws. take (length ws) (v ∷ vs) ≡ ws)
      (λ _. refl) (λ _. ap (λ ws. v ∷ ws) (prefix_taken (needed - f v) vs))

  pub prefix_done : (left : ℕ) (vs : List Voter) → left ≡ 0 → length (least_prefix f left vs) ≡ 0
  prefix_done left vs none = ap (λ n. length (least_prefix f n vs)) none ∙ ap length (prefix_none f vs)

-- voters that are sorted by one power, and from the end of its prefix on by another, are in front what is to be chosen
module _ (f g : Voter → ℕ) (needed more : ℕ) (given : List Voter) (stand : StandByPlace given) (sorted : List Voter) (is_sorted : sorted ≡ falling f given)
    (first : ℕ) (is_first : first ≡ length (least_prefix f needed sorted)) where
  abbrev rest : List Voter
  rest = rising (drop first sorted)

  pub rest_stand : StandByPlace rest
  rest_stand = subst (λ ws. StandByPlace (rising (drop first ws))) (sym is_sorted) (others_stand f first given stand)

  pub rest_same : IsPermutation rest (drop first sorted)
  rest_same = IsPermutation-sym (drop first sorted) rest (rising_same (drop first sorted))

  pub chosen : (new : List Voter) (end lack : ℕ) → lack ≡ more - sum_by g (take first sorted) → take first new ≡ take first sorted → drop first new ≡ falling g rest
      → end ≡ first + length (least_prefix g lack (drop first new)) → take end new ≡ fewest_then f needed g more given
  chosen new end lack is_lack is_kept is_rest is_end =
      let start = least_prefix f needed (falling f given) in
      let count = length (least_prefix g lack (drop first new)) in
      let prefix : take first sorted ≡ start =
      ap (λ n. take n sorted) is_first ∙ prefix_taken f needed sorted ∙ ap (λ vs. least_prefix f needed vs) is_sorted in
      let long : first ≡ length start = is_first ∙ ap (λ vs. length (least_prefix f needed vs)) is_sorted in
      let left : rest ≡ rising (drop (length start) (falling f given)) =
      ap (λ n. rising (drop n sorted)) long ∙ ap (λ vs. rising (drop (length start) vs)) is_sorted in
      let lacks : lack ≡ more - sum_by g start = is_lack ∙ ap (λ vs. more - sum_by g vs) prefix in
      ap (λ n. take n new) is_end
      ∙ split_take first count new
      ∙ ap (λ ws. ws ++ take count (drop first new)) (is_kept ∙ prefix)
      ∙ ap (λ ws. start ++ ws) (prefix_taken g lack (drop first new))
      ∙ ap (λ ws. start ++ least_prefix g lack ws) (is_rest ∙ ap (λ vs. falling g vs) left)
      ∙ ap (λ n. start ++ least_prefix g n (falling g (rising (drop (length start) (falling f given))))) lacks
