-- voters by power falling: the same voters, and the first have the most power
use Rattle.std.proofs.Common.{◌≡◌, ℕ, zero, suc, ◌+◌, ◌-◌, ◌*◌, ◌≤◌, leb, List, [], ◌∷◌, ◌++◌, length, take, All, refl, ap, ◌∙◌, arith}
use Rattle.std.specs.List.{sum_by}
use Rattle.std.specs.List.Sorted.{IsPermutation}
use Rattle.std.proofs.lemmas.Bool.{cond_both, cond-true, leb-true, leb-false, le-leb}
use Rattle.std.proofs.lemmas.List.Sums.{sum_by-cons, sum_by-append}
use Rattle.std.proofs.lemmas.List.Elements.{All-nil, All-cons, All-head, All-tail, All-weaker}
use Rattle.std.proofs.lemmas.List.Sorted.{All-permutation, IsPermutation-refl, IsPermutation-sym, IsPermutation-cons, IsPermutation-trans, IsPermutation-middle, sum_by-IsPermutation}
use Rattle.rb_votes.specs.declared.voter.Voter.{Voter}
use Rattle.rb_votes.specs.Votes.{inserted, falling, placed, rising}

pub placed_same : (v : Voter) (ws : List Voter) → IsPermutation (v ∷ ws) (placed v ws)
placed_same v [] = IsPermutation-refl (v ∷ [])
placed_same v (w ∷ ws) =
    cond_both (leb v.place w.place) (v ∷ w ∷ ws) (w ∷ placed v ws) (IsPermutation (v ∷ w ∷ ws))
    (λ _. IsPermutation-refl (v ∷ w ∷ ws))
    (λ _. IsPermutation-trans (v ∷ w ∷ ws) (w ∷ v ∷ ws) (w ∷ placed v ws)
    (IsPermutation-sym (w ∷ v ∷ ws) (v ∷ w ∷ ws) (IsPermutation-middle (w ∷ []) v ws))
    (IsPermutation-cons w (v ∷ ws) (placed v ws) (placed_same v ws)))

pub rising_same : (vs : List Voter) → IsPermutation vs (rising vs)
rising_same [] = IsPermutation-refl []
rising_same (v ∷ vs) =
    IsPermutation-trans (v ∷ vs) (v ∷ rising vs) (rising (v ∷ vs))
    (IsPermutation-cons v vs (rising vs) (rising_same vs)) (placed_same v (rising vs))

module _ (f : Voter → ℕ) where
  -- each has no more power than those before it
  abbrev pub IsFalling : List Voter → Type 0
  IsFalling [] = Unit {0}
  IsFalling (v ∷ vs) = All (λ w. f w ≤ f v) vs × IsFalling vs

  pub inserted_same : (v : Voter) (ws : List Voter) → IsPermutation (v ∷ ws) (inserted f v ws)
  inserted_same v [] = IsPermutation-refl (v ∷ [])
  inserted_same v (w ∷ ws) =
      cond_both (leb (f w) (f v)) (v ∷ w ∷ ws) (w ∷ inserted f v ws) (IsPermutation (v ∷ w ∷ ws))
      (λ _. IsPermutation-refl (v ∷ w ∷ ws))
      (λ _. IsPermutation-trans (v ∷ w ∷ ws) (w ∷ v ∷ ws) (w ∷ inserted f v ws)
      (IsPermutation-sym (w ∷ v ∷ ws) (v ∷ w ∷ ws) (IsPermutation-middle (w ∷ []) v ws))
      (IsPermutation-cons w (v ∷ ws) (inserted f v ws) (inserted_same v ws)))

  pub falling_same : (vs : List Voter) → IsPermutation vs (falling f vs)
  falling_same [] = IsPermutation-refl []
  falling_same (v ∷ vs) =
      IsPermutation-trans (v ∷ vs) (v ∷ falling f vs) (falling f (v ∷ vs))
      (IsPermutation-cons v vs (falling f vs) (falling_same vs)) (inserted_same v (falling f vs))

  inserted_falls : (v : Voter) (ws : List Voter) → IsFalling ws → IsFalling (inserted f v ws)
  inserted_falls v [] falls = (All-nil (λ w. f w ≤ f v), tt)
  inserted_falls v (w ∷ ws) falls =
      cond_both (leb (f w) (f v)) (v ∷ w ∷ ws) (w ∷ inserted f v ws) IsFalling
      (λ below. let b = leb-true (f w) (f v) below in
      (All-cons (λ u. f u ≤ f v) w ws b (All-weaker (λ u. f u ≤ f w) (λ u. f u ≤ f v) (λ u h. omega (arith, h, b)) ws falls.0), falls))
      (λ above. (
        All-permutation (λ u. f u ≤ f w) (v ∷ ws) (inserted f v ws) (inserted_same v ws)
            (All-cons (λ u. f u ≤ f w) v ws (omega (arith, leb-false (f w) (f v) above)) falls.0),
        inserted_falls v ws falls.1,
      ))

  pub falling_falls : (vs : List Voter) → IsFalling (falling f vs)
  falling_falls [] = tt
  falling_falls (v ∷ vs) = inserted_falls v (falling f vs) (falling_falls vs)

  front : (v : Voter) (ws : List Voter) → All (λ w. f w ≤ f v) ws → inserted f v ws ≡ v ∷ ws
  front v [] all = refl
  front v (w ∷ ws) all = cond-true (leb (f w) (f v)) (v ∷ w ∷ ws) (w ∷ inserted f v ws) (le-leb (f w) (f v) (All-head (λ u. f u ≤ f v) w ws all))

  -- voters whose power falls stand as they are
  pub falling_keeps : (vs : List Voter) → IsFalling vs → falling f vs ≡ vs
  falling_keeps [] falls = refl
  falling_keeps (v ∷ vs) falls = ap (λ ws. inserted f v ws) (falling_keeps vs falls.1) ∙ front v vs falls.0

  none_above : (t : ℕ) (vs : List Voter) → All (λ v. f v ≤ t) vs → sum_by (λ v. f v - t) vs ≡ 0
  none_above t [] all = refl
  none_above t (v ∷ vs) all =
      omega (arith, sum_by-cons (λ w. f w - t) v vs, none_above t vs (All-tail (λ w. f w ≤ t) v vs all), All-head (λ w. f w ≤ t) v vs all)

  -- a power above which only the first so many have any
  cut : (k b : ℕ) (vs : List Voter) → IsFalling vs → All (λ v. f v ≤ b) vs
      → (t : ℕ) × (t ≤ b) × (sum_by (λ v. f v - t) vs + k * t ≤ sum_by f (take k vs))
  cut zero b vs falls all = (b, omega arith, omega (arith, none_above b vs all))
  cut (suc k) b [] falls all = (0, omega arith, omega arith)
  cut (suc k) b (v ∷ vs) falls all =
      let c = cut k (f v) vs falls.1 falls.0 in
      let h = All-head (λ w. f w ≤ b) v vs all in
      (c.0, omega (arith, c.1, h), omega (arith, c.1, c.2, sum_by-cons (λ w. f w - c.0) v vs, sum_by-cons f v (take k vs)))

  all_below : (vs : List Voter) → All (λ v. f v ≤ sum_by f vs) vs
  all_below [] = All-nil (λ v. f v ≤ 0)
  all_below (v ∷ vs) =
      All-cons (λ w. f w ≤ sum_by f (v ∷ vs)) v vs (omega (arith, sum_by-cons f v vs))
      (All-weaker (λ w. f w ≤ sum_by f vs) (λ w. f w ≤ sum_by f (v ∷ vs)) (λ w h. omega (arith, h, sum_by-cons f v vs)) vs (all_below vs))

  sum_above : (t : ℕ) (vs : List Voter) → sum_by f vs ≤ sum_by (λ v. f v - t) vs + length vs * t
  sum_above t [] = omega arith
  sum_above t (v ∷ vs) = omega (arith, sum_above t vs, sum_by-cons f v vs, sum_by-cons (λ w. f w - t) v vs)

  sum_cut : (t : ℕ) (vs : List Voter) → sum_by (λ v. f v - t) vs ≤ sum_by f vs
  sum_cut t [] = omega arith
  sum_cut t (v ∷ vs) = omega (arith, sum_cut t vs, sum_by-cons f v vs, sum_by-cons (λ w. f w - t) v vs)

  -- votes have no more power than some voters and as many of the others with the most
  pub at_most_first : (voters first rest votes left : List Voter)
      → IsPermutation voters (first ++ rest) → IsPermutation voters (votes ++ left)
      → sum_by f votes ≤ sum_by f first + sum_by f (take (length votes) (falling f rest))
  at_most_first voters first rest votes left split part =
      let sorted = falling f rest in
      let c = cut (length votes) (sum_by f sorted) sorted (falling_falls rest) (all_below sorted) in
      let e : Voter → ℕ = λ v. f v - c.0 in
      omega (
        arith,
        c.2,
        sum_above c.0 votes,
        sum_cut c.0 first,
        sum_by-append e first rest,
        sum_by-append e votes left,
        sum_by-IsPermutation e voters (first ++ rest) split,
        sum_by-IsPermutation e voters (votes ++ left) part,
        sum_by-IsPermutation e rest sorted (falling_same rest),
      )
