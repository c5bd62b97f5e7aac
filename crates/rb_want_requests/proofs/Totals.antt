-- How many rounds a search takes.
use Rattle.std.proofs.Common.{◌≡◌, ℕ, zero, suc, ◌+◌, ◌-◌, ◌*◌, ◌^◌, ◌<◌, ◌≤◌, ◌==◌, List, [], ◌∷◌, length, filter, Bool, true, false, cond, All, inl, inr, refl, sym, ap, ◌∙◌, arith}
use Rattle.std.specs.Prelude.{Contains, not}
use Rattle.std.proofs.Math.Nat.{suc-mul}
use Rattle.std.proofs.lemmas.Bool.{cases_lt, eqb-true, eq-eqb, true≢false}
use Rattle.std.proofs.lemmas.List.Elements.{All-filter, All-tail, filter_passes}
use Rattle.std.proofs.lemmas.List.Kept.{AllPairs-filter}
use Rattle.rb_want_requests.specs.declared.searching.Aim.{Aim}
use Rattle.rb_want_requests.specs.Rounds.{AreRounds, Asks, FewRounds, IsLater, Round}
use Rattle.rb_want_requests.proofs.Rounds.{few_from_one}

-- elements that pass a test, and the others
split : {X : Type 0} (p : X → Bool) (xs : List X) → length xs ≡ length (filter p xs) + length (filter (λ x. not (p x)) xs)
split p [] = refl
split p (x ∷ xs) = go (p x) (split p xs)
  where
    go : (b : Bool) → length xs ≡ length (filter p xs) + length (filter (λ y. not (p y)) xs)
        → suc (length xs) ≡ length (cond b (x ∷ filter p xs) (filter p xs))
        + length (cond (not b) (x ∷ filter (λ y. not (p y)) xs) (filter (λ y. not (p y)) xs))
    go true rest = omega (arith, rest)
    go false rest = omega (arith, rest)

some_of : (aim : Aim) (p : Round → Bool) (rounds : List Round) → AreRounds aim rounds → AreRounds aim (filter p rounds)
some_of aim p rounds (pairs, asks) = (AllPairs-filter IsLater p rounds pairs, All-filter p (Asks aim) rounds asks)

-- what is one of these, and isn't the first, is one of the others
elsewhere : (t : ℕ) (ts : List ℕ) (x : ℕ) → Contains (t ∷ ts) x → not (x == t) ≡ true → Contains ts x
elsewhere t ts x (zero, small, is) other = absurd (true≢false (sym other ∙ ap not (eq-eqb x t (sym is))))
elsewhere t ts x (suc k, small, is) other = (k, omega (arith, small), is)

-- few rounds ask about steps from one height
few_here : (aim : Aim) (t k : ℕ) (rounds : List Round) → AreRounds aim rounds → All (λ (r : Round). r.question.trusted ≡ t) rounds
    → aim.most - t ≤ 2 ^ k
    → length rounds ≤ k + 1
few_here aim t k rounds are at near =
    elim (cases_lt (k + 1) (length rounds)) [
      | inl many ↦ let small : 2 ^ k < aim.most - t = few_from_one aim t k rounds are at (omega (arith, many)) in absurd (omega (arith, small, near))
      | inr few ↦ few
    ]

pub few_rounds : FewRounds
few_rounds aim [] k [] are among near = omega arith
few_rounds aim [] k (r ∷ rs) are among near = let none = among 0 r (omega arith) in absurd (omega (arith, none.1))
few_rounds aim (t ∷ ts) k rounds are among near =
    let p : Round → Bool = λ r. r.question.trusted == t in
    let here = filter p rounds in
    let rest = filter (λ r. not (p r)) rounds in
    let whole : length rounds ≡ length here + length rest = split p rounds in
    let first : length here ≤ k + 1 =
    few_here aim t k here (some_of aim p rounds are) (λ i d small. eqb-true _ _ (filter_passes p rounds i d small)) (near 0 t (omega arith)) in
    let others : length rest ≤ length ts * (k + 1) =
    few_rounds aim ts k rest (some_of aim (λ r. not (p r)) rounds are)
    (λ i d small. elsewhere t ts _ (All-filter (λ r. not (p r)) (λ (r : Round). Contains (t ∷ ts) r.question.trusted) rounds among i d small)
    (filter_passes (λ r. not (p r)) rounds i d small))
    (All-tail (λ u. aim.most - u ≤ 2 ^ k) t ts near) in
    let product : suc (length ts) * (k + 1) ≡ length ts * (k + 1) + (k + 1) = suc-mul (length ts) (k + 1) in
    omega (arith, whole, first, others, product)
