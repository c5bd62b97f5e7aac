-- what a loop over a list keeps of it, by each element's place
use Rattle.std.proofs.Common.{ℕ, ◌+◌, ◌<◌, ◌≤◌, ◌≡◌, Bool, true, false, cond, List, [], ◌∷◌, ◌++◌, length, map, take, get_or, refl, sym, ap, ◌∙◌, zero-add, arith}
use Rattle.std.specs.List.{filter, enumerate_from}
use Rattle.std.proofs.lemmas.List.{take_all, map-append}
use Rattle.std.proofs.lemmas.List.Elements.{filter_more}
use Rattle.std.proofs.lemmas.List.FromFn.{length-enumerate_from, get_or-enumerate_from}

module _ {X : Type 0} (test : ℕ × X → Bool) where
  -- the elements that pass the test at their places
  abbrev pub kept : List (ℕ × X) → List X
  kept ps = map (λ (p : ℕ × X). p.1) (filter test ps)

  pub kept_more : (xs : List X) (i : ℕ) (x : X) → i < length xs → x ≡ get_or xs i x
      → kept (take (i + 1) (enumerate_from 0 xs)) ≡ kept (take i (enumerate_from 0 xs)) ++ cond (test (i, x)) (x ∷ []) []
  kept_more xs i x less is =
      let ps = enumerate_from 0 xs in
      let within : i < length ps = omega (arith, length-enumerate_from 0 xs) in
      let at : get_or ps i (i, x) ≡ (i, x) = get_or-enumerate_from 0 xs i (i, x) less ∙ (λ k. (zero-add i k, sym is k)) in
      ap (map (λ (p : ℕ × X). p.1)) (filter_more test ps i (i, x) within)
      ∙ map-append (λ (p : ℕ × X). p.1) (filter test (take i ps)) _
      ∙ ap (λ ys. kept (take i ps) ++ ys) (rw at (elim (test (i, x)) as (λ b. map (λ (p : ℕ × X). p.1) (cond b ((i, x) ∷ []) []) ≡ cond b (x ∷ []) []) [ true ↦ refl | false ↦ refl ]))

  pub kept_all : (xs : List X) (i : ℕ) → length xs ≤ i → kept (take i (enumerate_from 0 xs)) ≡ kept (enumerate_from 0 xs)
  kept_all xs i past = ap kept (take_all i (enumerate_from 0 xs) (omega (arith, length-enumerate_from 0 xs)))
