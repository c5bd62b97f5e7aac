-- the voters that are left of those by power falling, by place rising: they stand as a set's voters do
use Rattle.std.proofs.Common.{◌≢◌, ℕ, zero, suc, ◌<◌, ◌≤◌, ◌⊎◌, leb, List, [], ◌∷◌, drop, sym, inl, inr, arith}
use Rattle.std.specs.List.{AllByRecursion}
use Rattle.std.proofs.lemmas.Bool.{cond_both, cases_lt, leb-true, leb-false}
use Rattle.rb_votes.specs.declared.voter.Voter.{Voter}
use Rattle.rb_votes.specs.Places.{StandByPlace}
use Rattle.rb_votes.specs.Votes.{inserted, falling, placed, rising}

module _ (P : Voter → Type 0) where
  inserted_all : (f : Voter → ℕ) (v : Voter) (ws : List Voter) → P v → AllByRecursion P ws → AllByRecursion P (inserted f v ws)
  inserted_all f v [] first rest = (first, tt)
  inserted_all f v (w ∷ ws) first rest =
      cond_both (leb (f w) (f v)) (v ∷ w ∷ ws) (w ∷ inserted f v ws) (AllByRecursion P)
      (λ _. (first, rest)) (λ _. (rest.0, inserted_all f v ws first rest.1))

  falling_all : (f : Voter → ℕ) (vs : List Voter) → AllByRecursion P vs → AllByRecursion P (falling f vs)
  falling_all f [] all = tt
  falling_all f (v ∷ vs) all = inserted_all f v (falling f vs) all.0 (falling_all f vs all.1)

  placed_all : (v : Voter) (ws : List Voter) → P v → AllByRecursion P ws → AllByRecursion P (placed v ws)
  placed_all v [] first rest = (first, tt)
  placed_all v (w ∷ ws) first rest =
      cond_both (leb v.place w.place) (v ∷ w ∷ ws) (w ∷ placed v ws) (AllByRecursion P)
      (λ _. (first, rest)) (λ _. (rest.0, placed_all v ws first rest.1))

  rising_all : (vs : List Voter) → AllByRecursion P vs → AllByRecursion P (rising vs)
  rising_all [] all = tt
  rising_all (v ∷ vs) all = placed_all v (rising vs) all.0 (rising_all vs all.1)

  weaker : (Q : Voter → Type 0) → ((v : Voter) → P v → Q v) → (vs : List Voter) → AllByRecursion P vs → AllByRecursion Q vs
  weaker Q implies [] all = tt
  weaker Q implies (v ∷ vs) all = (implies v all.0, weaker Q implies vs all.1)

-- no two of the voters have one place
abbrev Apart : List Voter → Type 0
Apart [] = Unit {0}
Apart (v ∷ vs) = AllByRecursion (λ w. v.place ≢ w.place) vs × Apart vs

stand_apart : (vs : List Voter) → StandByPlace vs → Apart vs
stand_apart [] stand = tt
stand_apart (v ∷ vs) stand =
    (weaker (λ w. v.place < w.place) (λ w. v.place ≢ w.place) (λ w below same. omega (arith, below, same)) vs stand.0, stand_apart vs stand.1)

drop_apart : (n : ℕ) (vs : List Voter) → Apart vs → Apart (drop n vs)
drop_apart zero vs apart = apart
drop_apart (suc n) [] apart = apart
drop_apart (suc n) (v ∷ vs) apart = drop_apart n vs apart.1

inserted_apart : (f : Voter → ℕ) (v : Voter) (ws : List Voter) → AllByRecursion (λ w. v.place ≢ w.place) ws → Apart ws → Apart (inserted f v ws)
inserted_apart f v [] from apart = (tt, tt)
inserted_apart f v (w ∷ ws) from apart =
    cond_both (leb (f w) (f v)) (v ∷ w ∷ ws) (w ∷ inserted f v ws) Apart
    (λ _. (from, apart))
    (λ _. (inserted_all (λ u. w.place ≢ u.place) f v ws (λ same. from.0 (sym same)) apart.0, inserted_apart f v ws from.1 apart.1))

falling_apart : (f : Voter → ℕ) (vs : List Voter) → Apart vs → Apart (falling f vs)
falling_apart f [] apart = tt
falling_apart f (v ∷ vs) apart = inserted_apart f v (falling f vs) (falling_all (λ w. v.place ≢ w.place) f vs apart.0) (falling_apart f vs apart.1)

below : (a b : ℕ) → a ≤ b → a ≢ b → a < b
below a b upto apart = by (cases_lt a b)
  where
    by : (a < b) ⊎ (b ≤ a) → a < b
    by (inl less) = less
    by (inr more) = absurd (apart (omega (arith, upto, more)))

placed_stand : (v : Voter) (ws : List Voter) → AllByRecursion (λ w. v.place ≢ w.place) ws → StandByPlace ws → StandByPlace (placed v ws)
placed_stand v [] apart stand = (tt, tt)
placed_stand v (w ∷ ws) apart stand =
    cond_both (leb v.place w.place) (v ∷ w ∷ ws) (w ∷ placed v ws) StandByPlace
    (λ upto. let first = below v.place w.place (leb-true v.place w.place upto) apart.0 in
    ((first, weaker (λ u. w.place < u.place) (λ u. v.place < u.place) (λ u later. omega (arith, first, later)) ws stand.0), stand))
    (λ above. (placed_all (λ u. w.place < u.place) v ws (omega (arith, leb-false v.place w.place above)) stand.0, placed_stand v ws apart.1 stand.1))

rising_stand : (vs : List Voter) → Apart vs → StandByPlace (rising vs)
rising_stand [] apart = tt
rising_stand (v ∷ vs) apart = placed_stand v (rising vs) (rising_all (λ w. v.place ≢ w.place) vs apart.0) (rising_stand vs apart.1)

pub others_stand : (f : Voter → ℕ) (n : ℕ) (given : List Voter) → StandByPlace given → StandByPlace (rising (drop n (falling f given)))
others_stand f n given stand =
    rising_stand (drop n (falling f given)) (drop_apart n (falling f given) (falling_apart f given (stand_apart given stand)))
