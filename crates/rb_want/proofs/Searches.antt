-- What a binary search by a number says of elements whose numbers don't fall.
use Rattle.std.proofs.Common.{◌≡◌, ◌≢◌, ℕ, ◌<◌, ◌≤◌, ◌⊎◌, List, [], ◌∷◌, length, get_or, Option, Some, None, Result, Ok, Err, All, inl, inr, sym, ap, ◌∙◌, arith, nat_cmp, Less}
use Rattle.std.specs.Prelude.{Any, IfNone, IfSome, MatchResult, slice_get}
use Rattle.std.specs.List.Sorted.{IsBinarySearchResult, IsNonDecreasingBy, IsSearchInRange}
use Rattle.std.specs.Ordering.{ordering_index}
use Rattle.std.specs.Borrow.{Bor}
use Rattle.std.specs.Option.{option_copied}
use Rattle.std.specs.Result.{result_ok}
use Rattle.std.specs.Slice.{IsItemAt}
use Rattle.std.specs.declared.cmp.Ordering.TheVariants.{Greater}
use Rattle.std.proofs.lemmas.Bool.{cases_lt}
use Rattle.std.proofs.lemmas.Bool.Decides.{nat_tests}
use Rattle.std.proofs.lemmas.Grind.{common_steps}
use Rattle.std.proofs.lemmas.Map.Lookups.{exact_unsigned}
use Rattle.std.proofs.lemmas.Option.{none-some, same_Some, slice_get-get_or, slice_get_past}
use Rattle.rb_import_answers.specs.declared.client.ConsensusState.{ConsensusState}
use Rattle.rb_want.specs.Steps.{IsStoredAt}

under_cmp : (a n : ℕ) → nat_cmp a n ≡ Less → a < n
under_cmp a n e = grind (arith, nat_tests, common_steps)

more_cmp : (a n : ℕ) → nat_cmp a n ≡ Greater → n < a
more_cmp a n e = grind (arith, nat_tests, common_steps)

rises_cmp : (a b n : ℕ) → a ≤ b → ordering_index (nat_cmp a n) ≤ ordering_index (nat_cmp b n)
rises_cmp a b n le = grind (arith, nat_tests, common_steps)

-- a copy of what a look-up lends
pub copied_at : {X : Type 0} (xs : List X) (i : ℕ) (r : Option (Bor X)) → IsItemAt xs i r → option_copied r ≡ slice_get xs i
copied_at xs i (Some x) found = ap Some found.1 ∙ sym (slice_get-get_or xs i x.now found.3.0)
copied_at xs i None found = sym (slice_get_past xs i found.3)

-- what is at the place that a search found, if it found one
pub at_some : {X : Type 0} (xs : List X) (r : Result ℕ ℕ) (o : Option X) (i : ℕ) → result_ok r ≡ Some i → o ≡ slice_get xs i → MatchResult r (λ j. o ≡ slice_get xs j) (λ j. o ≡ None)
at_some xs (Ok j) o i e is = is ∙ ap (slice_get xs) (sym (same_Some j i e))
at_some xs (Err j) o i e is = absurd (none-some i e)

module _ {X : Type 0} (number : X → ℕ) (n : ℕ) where
  -- where none was found, none has the number
  pub absent : (xs : List X) (r : Result ℕ ℕ) → IsNonDecreasingBy number xs → IsBinarySearchResult (λ y. nat_cmp (number y) n) xs r → result_ok r ≡ None
      → All (λ y. number y ≢ n) xs
  absent xs (Ok i) rises point none = absurd (none-some i (sym none))
  absent xs (Err i) rises point none = λ k d small same. apart k d small same (cases_lt k i)
    where
      climbs : (a b : ℕ) (e : X) → a ≤ b → b < length xs → ordering_index (nat_cmp (number (get_or xs a e)) n) ≤ ordering_index (nat_cmp (number (get_or xs b e)) n)
      climbs a b e le lt = rises_cmp (number (get_or xs a e)) (number (get_or xs b e)) n (rises a b e le lt)

      apart : (k : ℕ) (d : X) → k < length xs → number (get_or xs k d) ≡ n → (k < i) ⊎ (i ≤ k) → ⊥
      apart k d small same (inl before) = let low = under_cmp (number (get_or xs k d)) n ((point climbs).0 k d (omega arith) before) in omega (arith, low, same)
      apart k d small same (inr behind) = let high = more_cmp (number (get_or xs k d)) n ((point climbs).1 k d behind small) in omega (arith, high, same)

  -- what was found is one of them, of that number
  pub among : (xs : List X) (r : Result ℕ ℕ) (o : Option X) → IsSearchInRange r (length xs) → IsBinarySearchResult (λ y. nat_cmp (number y) n) xs r
      → MatchResult r (λ i. o ≡ slice_get xs i) (λ i. o ≡ None) → IfSome o (λ c. Any (λ y. y ≡ c) xs × (number c ≡ n))
  among xs r None within is at = tt
  among xs (Ok i) (Some c) within is at =
      let place : Some c ≡ slice_get xs i = at in
      let same : c ≡ get_or xs i c = same_Some c (get_or xs i c) (place ∙ slice_get-get_or xs i c within) in
      ((i, c, within, sym same, λ _. c), ap number same ∙ exact_unsigned _ _ (is c))
  among xs (Err i) (Some c) within is at = absurd (none-some c (sym at))

-- something stands at a place within a list
within : {X : Type 0} (xs : List X) (i : ℕ) → i < length xs → slice_get xs i ≢ None
within [] i small is = omega (arith, small)
within (x ∷ xs) i small is = none-some (get_or (x ∷ xs) i x) (sym is ∙ slice_get-get_or (x ∷ xs) i x small)

-- a look-up at the place that a search found gives something
pub something : {X : Type 0} (P : Type 0) (xs : List X) (r : Result ℕ ℕ) (o : Option X) (i : ℕ)
    → result_ok r ≡ Some i → IsSearchInRange r (length xs) → o ≡ slice_get xs i → IfNone o P
something P xs r (Some x) i e range is = tt
something P xs (Ok j) None i e range is = absurd (within xs j range (ap (slice_get xs) (same_Some j i e) ∙ sym is))
something P xs (Err j) None i e range is = absurd (none-some i e)

pub nothing : {X : Type 0} (P : Type 0) (o : Option X) → P → IfNone o P
nothing P None holds = holds
nothing P (Some x) holds = tt

-- what a search by height found is stored there
pub stored : (height : ℕ) (xs : List (Bor ConsensusState)) (r : Result ℕ ℕ) (o : Option (Bor ConsensusState)) → IsSearchInRange r (length xs)
    → IsBinarySearchResult (λ y. nat_cmp y.now.height height) xs r → MatchResult r (λ i. o ≡ slice_get xs i) (λ i. o ≡ None)
    → IfSome o (λ state. IsStoredAt xs height state.now)
stored height xs r o range point at = go o (among (λ y. y.now.height) height xs r o range point at)
  where
    go : (o : Option (Bor ConsensusState)) → IfSome o (λ c. Any (λ y. y ≡ c) xs × (c.now.height ≡ height)) → IfSome o (λ state. IsStoredAt xs height state.now)
    go None is = tt
    go (Some c) ((k, x, small, here, same), high) = (high, (k, x, small, here, ap (λ (b : Bor ConsensusState). b.now) same))
