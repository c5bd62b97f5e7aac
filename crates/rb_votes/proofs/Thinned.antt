-- votes without the superfluous ones: a part that still passes, and of which none can be left out
use Rattle.std.proofs.Common.{◌≡◌, ℕ, zero, suc, ◌≤◌, ◌<◌, true, false, leb, List, [], ◌∷◌, ◌++◌, length, sym, ◌∙◌, arith}
use Rattle.std.specs.List.{sum_by, remove}
use Rattle.std.specs.List.Sorted.{IsPermutation}
use Rattle.std.proofs.lemmas.Bool.{cond_both, leb-true, le-leb, and_parts, and_from, false≢true}
use Rattle.std.proofs.lemmas.List.Sums.{sum_by-cons, sum_by-append}
use Rattle.std.proofs.lemmas.List.Sorted.{IsPermutation-refl, IsPermutation-sym, IsPermutation-cons, IsPermutation-trans, IsPermutation-middle}
use Rattle.rb_votes.specs.declared.voter.Voter.{Voter}
use Rattle.rb_votes.specs.declared.voter.Needed.{Needed}
use Rattle.rb_votes.specs.Votes.{Passes, are_enough, IsPart, thinned}

abbrev own_of : List Voter → ℕ
own_of votes = sum_by (λ v. v.own) votes

abbrev trusted_of : List Voter → ℕ
trusted_of votes = sum_by (λ v. v.trusted) votes

pub Passes-from : (needed : Needed) (votes : List Voter) → are_enough needed votes ≡ true → Passes needed votes
Passes-from needed votes test =
    let both = and_parts (leb needed.own (own_of votes)) (leb needed.trusted (trusted_of votes)) test in
    record { own = leb-true needed.own (own_of votes) both.0; trusted = leb-true needed.trusted (trusted_of votes) both.1 }

pub are_enough-from : (needed : Needed) (votes : List Voter) → Passes needed votes → are_enough needed votes ≡ true
are_enough-from needed votes p =
    and_from (leb needed.own (own_of votes)) (leb needed.trusted (trusted_of votes))
    (le-leb needed.own (own_of votes) p.own) (le-leb needed.trusted (trusted_of votes) p.trusted)

-- votes with at least as much of both powers pass too
Passes-more : (needed : Needed) (less more : List Voter) → own_of less ≤ own_of more → trusted_of less ≤ trusted_of more → Passes needed less → Passes needed more
Passes-more needed less more own trusted p = record { own = omega (arith, own, p.own); trusted = omega (arith, trusted, p.trusted) }

module _ (needed : Needed) where
  abbrev behind : List Voter → Voter → List Voter → List Voter
  behind before v vs = thinned needed (before ++ v ∷ []) vs

  pub thinned_le : (before vs : List Voter) → length (thinned needed before vs) ≤ length vs
  thinned_le before [] = omega arith
  thinned_le before (v ∷ vs) =
      let rest = thinned_le (before ++ v ∷ []) vs in
      cond_both (are_enough needed (before ++ behind before v vs)) (behind before v vs) (v ∷ behind before v vs) (λ ws. length ws ≤ length (v ∷ vs))
      (λ _. omega (arith, rest)) (λ _. omega (arith, rest))

  pub thinned_part : (before vs : List Voter) → IsPart (thinned needed before vs) vs
  thinned_part before [] = ([], IsPermutation-refl [])
  thinned_part before (v ∷ vs) =
      let rest = thinned_part (before ++ v ∷ []) vs in
      let kept = behind before v vs in
      let same : IsPermutation (v ∷ vs) (v ∷ (kept ++ rest.0)) = IsPermutation-cons v vs (kept ++ rest.0) rest.1 in
      cond_both (are_enough needed (before ++ kept)) kept (v ∷ kept) (λ ws. IsPart ws (v ∷ vs))
      (λ _. (
        v ∷ rest.0,
        IsPermutation-trans (v ∷ vs) (v ∷ (kept ++ rest.0)) (kept ++ v ∷ rest.0) same
            (IsPermutation-sym (kept ++ v ∷ rest.0) (v ∷ (kept ++ rest.0)) (IsPermutation-middle kept v rest.0)),
      ))
      (λ _. (rest.0, same))

  moved : (f : Voter → ℕ) (before : List Voter) (v : Voter) (vs : List Voter) → sum_by f ((before ++ v ∷ []) ++ vs) ≡ sum_by f (before ++ v ∷ vs)
  moved f before v vs =
      omega (
        arith,
        sum_by-append f (before ++ v ∷ []) vs,
        sum_by-append f before (v ∷ []),
        sum_by-append f before (v ∷ vs),
        sum_by-cons f v vs,
        sum_by-cons f v [],
      )

  still_passes : (before vs : List Voter) → Passes needed (before ++ vs) → Passes needed (before ++ thinned needed before vs)
  still_passes before [] all = all
  still_passes before (v ∷ vs) all =
      let kept = behind before v vs in
      let start = Passes-more needed (before ++ v ∷ vs) ((before ++ v ∷ []) ++ vs)
      (omega (arith, moved (λ u. u.own) before v vs)) (omega (arith, moved (λ u. u.trusted) before v vs)) all in
      let rest = still_passes (before ++ v ∷ []) vs start in
      cond_both (are_enough needed (before ++ kept)) kept (v ∷ kept) (λ ws. Passes needed (before ++ ws))
      (λ yes. Passes-from needed (before ++ kept) yes)
      (λ _. Passes-more needed ((before ++ v ∷ []) ++ kept) (before ++ v ∷ kept)
      (omega (arith, moved (λ u. u.own) before v kept)) (omega (arith, moved (λ u. u.trusted) before v kept)) rest)

  pub thinned_passes : (before vs : List Voter) → Passes needed (before ++ vs) → Passes needed (before ++ thinned needed before vs)
  thinned_passes = still_passes

  below : (f : Voter → ℕ) (front before : List Voter) (v : Voter) → sum_by f front ≤ sum_by f before → sum_by f front ≤ sum_by f (before ++ v ∷ [])
  below f front before v h = omega (arith, h, sum_by-append f before (v ∷ []))

  both_more : (f : Voter → ℕ) (front before : List Voter) (v : Voter) → sum_by f front ≤ sum_by f before → sum_by f (front ++ v ∷ []) ≤ sum_by f (before ++ v ∷ [])
  both_more f front before v h = omega (arith, h, sum_by-append f before (v ∷ []), sum_by-append f front (v ∷ []))

  less_before : (f : Voter → ℕ) (front before vs : List Voter) → sum_by f front ≤ sum_by f before → sum_by f (front ++ vs) ≤ sum_by f (before ++ vs)
  less_before f front before vs h = omega (arith, h, sum_by-append f before vs, sum_by-append f front vs)

  -- one that is kept: without it, and without one behind it
  keeps : (front before : List Voter) (v : Voter) (kept : List Voter) → own_of front ≤ own_of before → trusted_of front ≤ trusted_of before
      → are_enough needed (before ++ kept) ≡ false
      → ((i : ℕ) → i < length kept → ¬ Passes needed ((front ++ v ∷ []) ++ remove kept i))
      → (k : ℕ) → k < length (v ∷ kept) → ¬ Passes needed (front ++ remove (v ∷ kept) k)
  keeps front before v kept own trusted fails later zero inside p =
      let all = Passes-more needed (front ++ kept) (before ++ kept)
      (less_before (λ u. u.own) front before kept own) (less_before (λ u. u.trusted) front before kept trusted) p in
      false≢true (sym fails ∙ are_enough-from needed (before ++ kept) all)
  keeps front before v kept own trusted fails later (suc k) inside p =
      later k (omega (arith, inside))
      (Passes-more needed (front ++ v ∷ remove kept k) ((front ++ v ∷ []) ++ remove kept k)
      (omega (arith, moved (λ u. u.own) front v (remove kept k))) (omega (arith, moved (λ u. u.trusted) front v (remove kept k))) p)

  -- with no more before them than was there when they were chosen none can be left out
  pub thinned_needed : (front before vs : List Voter) → own_of front ≤ own_of before → trusted_of front ≤ trusted_of before
      → (k : ℕ) → k < length (thinned needed before vs) → ¬ Passes needed (front ++ remove (thinned needed before vs) k)
  thinned_needed front before [] own trusted k inside = absurd (omega (arith, inside))
  thinned_needed front before (v ∷ vs) own trusted k inside =
      let kept = behind before v vs in
      cond_both (are_enough needed (before ++ kept)) kept (v ∷ kept)
      (λ ws. (j : ℕ) → j < length ws → ¬ Passes needed (front ++ remove ws j))
      (λ _. thinned_needed front (before ++ v ∷ []) vs (below (λ u. u.own) front before v own) (below (λ u. u.trusted) front before v trusted))
      (λ fails. keeps front before v kept own trusted fails
      (thinned_needed (front ++ v ∷ []) (before ++ v ∷ []) vs
      (both_more (λ u. u.own) front before v own) (both_more (λ u. u.trusted) front before v trusted)))
      k inside
