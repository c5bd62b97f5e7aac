-- voters that are read from seats: sorted where the seats are
use Rattle.std.proofs.Common.{◌≡◌, ℕ, ◌+◌, ◌-◌, ◌<◌, ◌≤◌, Bool, List, [], ◌∷◌, ◌++◌, map, length, take, drop, sym, ap, ◌∙◌, subst, arith}
use Rattle.std.specs.List.{refill}
use Rattle.std.specs.List.Sorted.{IsPermutation, IsSortedBy}
use Rattle.std.specs.Ordering.{is_lt}
use Rattle.std.proofs.lemmas.List.{append-nil, take_all, take_at, drop_at, drop_all, take_rest, drop-map, take-map, get_or-map, length-map, length-drop, length-take-le, take-append-drop}
use Rattle.std.proofs.lemmas.List.Sorted.{IsPermutation-trans, IsPermutation-map, IsPermutation-append_right, length_permutation}
use Rattle.rb_votes.specs.declared.voter.Voter.{Voter}
use Rattle.rb_votes.specs.Places.{StandByPlace}
use Rattle.rb_votes.specs.Votes.{falling}
use Rattle.rb_votes.proofs.Ordered.{by_place, by_power, falling_is_sorted}

-- a list whose end, from an index on, came to another order
module _ {X : Type 0} (xs new : List X) (start : ℕ) (within : start ≤ length xs) (moved : IsPermutation (take (length xs - start) (drop start xs)) new) where
  abbrev whole : List X
  whole = take start xs ++ (new ++ drop (length xs - start) (drop start xs))

  joined : whole ≡ take start xs ++ new
  joined =
      ap (λ ys. take start xs ++ (new ++ ys)) (drop_all (length xs - start) (drop start xs) (omega (arith, length-drop start xs)))
      ∙ ap (λ ys. take start xs ++ ys) (append-nil new)

  pub end_first : take start whole ≡ take start xs
  end_first = ap (λ ys. take start ys) joined ∙ take_at (take start xs) new start (length-take-le start xs within)

  pub end_new : drop start whole ≡ new
  end_new = ap (λ ys. drop start ys) joined ∙ drop_at (take start xs) new start (length-take-le start xs within)

  pub end_moved : IsPermutation (drop start xs) new
  end_moved = subst (λ ys. IsPermutation ys new) (take_rest xs start) moved

  pub end_same : IsPermutation xs whole
  end_same =
      subst (IsPermutation xs) (sym joined)
      (subst (λ ys. IsPermutation ys (take start xs ++ new)) (take-append-drop start xs)
      (IsPermutation-append_right (take start xs) (drop start xs) new end_moved))

module _ {X : Type 0} (at : X → Voter) where
  sorted_map : (lt : Voter → Voter → Bool) (xs : List X) → IsSortedBy (λ x y. lt (at x) (at y)) xs → IsSortedBy lt (map at xs)
  sorted_map lt [] ordered k d low within = absurd (omega (arith, within))
  sorted_map lt (x ∷ xs) ordered k d low within =
      let inside : k + 1 < length (x ∷ xs) = omega (arith, within, length-map (x ∷ xs) at) in
      (λ i. lt (get_or-map at (x ∷ xs) (k + 1) x d inside i) (get_or-map at (x ∷ xs) k x d (omega (arith, inside)) i)) ∙ ordered k x low inside

  pub falling_seats : (f : Voter → ℕ) (old new : List X) → IsPermutation old new → IsSortedBy (λ x y. is_lt (by_power f by_place (at x) (at y))) new
      → (given : List Voter) → StandByPlace given → IsPermutation given (map at old) → map at new ≡ falling f given
  falling_seats f old new moved ordered given stand same =
      falling_is_sorted f given (map at new) stand (IsPermutation-trans given (map at old) (map at new) same (IsPermutation-map at old new moved))
      (sorted_map (λ v w. is_lt (by_power f by_place v w)) new ordered)

  -- written back to the seats that were lent
  module _ (old lent new : List X) (list : List Voter) (view : map at old ≡ list) (is_lent : lent ≡ old) (moved : IsPermutation lent new) where
    abbrev back : List X
    back = refill (length old) old new

    back_is : back ≡ new
    back_is =
        let long = length_permutation lent new moved in
        let longer = ap (λ xs. length xs) is_lent in
        ap (λ xs. take (length old) (new ++ xs)) (drop_all (length new) old (omega (arith, long, longer)))
        ∙ ap (λ xs. take (length old) xs) (append-nil new) ∙ take_all (length old) new (omega (arith, long, longer))

    lent_view : map at lent ≡ list
    lent_view = ap (λ xs. map at xs) is_lent ∙ view

    pub back_first : (start : ℕ) → take start new ≡ take start lent → take start (map at back) ≡ take start list
    back_first start kept =
        ap (λ xs. take start (map at xs)) back_is ∙ take-map at start new ∙ ap (λ xs. map at xs) kept ∙ sym (take-map at start lent) ∙ ap (λ vs. take start vs) lent_view

    pub back_same : IsPermutation list (map at back)
    back_same =
        subst (λ vs. IsPermutation vs (map at back)) lent_view (subst (λ xs. IsPermutation (map at lent) (map at xs)) (sym back_is) (IsPermutation-map at lent new moved))

    pub back_falling : (start : ℕ) (given sorted : List Voter) → (IsPermutation given (map at (drop start lent)) → map at (drop start new) ≡ sorted)
        → IsPermutation given (drop start list) → drop start (map at back) ≡ sorted
    back_falling start given sorted falls same =
        ap (λ xs. drop start (map at xs)) back_is ∙ drop-map at start new
        ∙ falls (subst (IsPermutation given) (sym (ap (λ vs. drop start vs) lent_view) ∙ drop-map at start lent) same)
