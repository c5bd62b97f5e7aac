-- the shortest prefix: it has the needed power where all have, and no shorter one has
use Rattle.std.proofs.Common.{◌≡◌, ℕ, zero, suc, ◌-◌, ◌≤◌, eqb, List, [], ◌∷◌, ◌++◌, length, take, drop, refl, ap, arith}
use Rattle.std.specs.List.{sum_by}
use Rattle.std.proofs.lemmas.Bool.{cond_both, eqb-true, eqb-false}
use Rattle.std.proofs.lemmas.List.Sums.{sum_by-cons}
use Rattle.rb_votes.specs.declared.voter.Voter.{Voter}
use Rattle.rb_votes.specs.Votes.{least_prefix}

module _ (f : Voter → ℕ) where
  pub prefix_reaches : (needed : ℕ) (vs : List Voter) → needed ≤ sum_by f vs → needed ≤ sum_by f (least_prefix f needed vs)
  prefix_reaches needed [] enough = enough
  prefix_reaches needed (v ∷ vs) enough =
      let rest = prefix_reaches (needed - f v) vs (omega (arith, enough, sum_by-cons f v vs)) in
      cond_both (eqb needed 0) [] (v ∷ least_prefix f (needed - f v) vs) (λ ws. needed ≤ sum_by f ws)
      (λ none. omega (arith, eqb-true needed 0 none))
      (λ _. omega (arith, rest, sum_by-cons f v (least_prefix f (needed - f v) vs)))

  pub prefix_short : (k needed : ℕ) (vs : List Voter) → needed ≤ sum_by f (take k vs) → length (least_prefix f needed vs) ≤ k
  prefix_short k needed [] enough = omega arith
  prefix_short zero needed (v ∷ vs) enough =
      cond_both (eqb needed 0) [] (v ∷ least_prefix f (needed - f v) vs) (λ ws. length ws ≤ 0)
      (λ _. omega arith)
      (λ some. let none : needed ≡ 0 = omega (arith, enough) in absurd (eqb-false needed 0 some none))
  prefix_short (suc k) needed (v ∷ vs) enough =
      let rest = prefix_short k (needed - f v) vs (omega (arith, enough, sum_by-cons f v (take k vs))) in
      cond_both (eqb needed 0) [] (v ∷ least_prefix f (needed - f v) vs) (λ ws. length ws ≤ suc k) (λ _. omega arith) (λ _. omega (arith, rest))

  pub prefix_none : (vs : List Voter) → least_prefix f 0 vs ≡ []
  prefix_none [] = refl
  prefix_none (v ∷ vs) = refl

  -- a prefix and what stands after it are the list
  pub prefix_and_rest : (needed : ℕ) (vs : List Voter) → least_prefix f needed vs ++ drop (length (least_prefix f needed vs)) vs ≡ vs
  prefix_and_rest needed [] = refl
  prefix_and_rest needed (v ∷ vs) =
      cond_both (eqb needed 0) [] (v ∷ least_prefix f (needed - f v) vs) (λ ws. ws ++ drop (length ws) (v ∷ vs) ≡ v ∷ vs)
      (λ _. refl) (λ _. ap (λ ws. v ∷ ws) (prefix_and_rest (needed - f v) vs))
