-- the loop that takes superfluous votes out, from the last back
use Rattle.std.proofs.Common.{◌≡◌, ℕ, suc, ◌+◌, ◌-◌, ◌≤◌, ◌<◌, true, false, List, [], ◌∷◌, ◌++◌, length, take, drop, get_or, sym, ap, ◌∙◌, arith}
use Rattle.std.specs.List.{sum_by}
use Rattle.std.proofs.lemmas.Bool.{cond-true, cond-false, false_from_ne_true}
use Rattle.std.proofs.lemmas.List.{take_more, drop_more, append_assoc, length-take-le, take_at, get_or_at}
use Rattle.std.proofs.Math.Seq.{drop-append-add}
use Rattle.std.proofs.lemmas.List.Sums.{sum_by-cons, sum_by-append}
use Rattle.rb_votes.specs.declared.voter.Voter.{Voter}
use Rattle.rb_votes.specs.declared.voter.Needed.{Needed}
use Rattle.rb_votes.specs.Votes.{are_enough, thinned}
use Rattle.rb_votes.proofs.Thinned.{Passes-from, are_enough-from}

-- what stands from a place on is thinned, and the totals are those of the votes
pub record IsThinned (needed : Needed) (old votes : List Voter) (from own trusted : ℕ) : Type 0 where
  pub within : from ≤ length old
  pub is : votes ≡ take from old ++ thinned needed (take from old) (drop from old)
  pub own_is : own ≡ sum_by (λ v. v.own) votes
  pub trusted_is : trusted ≡ sum_by (λ v. v.trusted) votes

module _ (needed : Needed) where
  -- what is left behind a vote
  abbrev after : List Voter → ℕ → Voter → List Voter
  after old i v = thinned needed (take i old ++ v ∷ []) (drop (i + 1) old)

  split : (old votes : List Voter) (i : ℕ) (v : Voter) → i < length old
      → votes ≡ take (i + 1) old ++ thinned needed (take (i + 1) old) (drop (i + 1) old) → v ≡ get_or votes i v
      → (votes ≡ take i old ++ v ∷ after old i v) × (drop i old ≡ v ∷ drop (i + 1) old)
  split old votes i v inside is read =
      let u = get_or old i v in
      let more = take_more old i v inside in
      let as_u : votes ≡ take i old ++ u ∷ after old i u =
      is ∙ ap (λ ws. ws ++ thinned needed ws (drop (i + 1) old)) more ∙ append_assoc (take i old) (u ∷ []) (after old i u) in
      let long : length (take i old) ≡ i = length-take-le i old (omega (arith, inside)) in
      let same : u ≡ v = sym (read ∙ ap (λ ws. get_or ws i v) as_u ∙ at_end (take i old) i u v (after old i u) long) in
      (as_u ∙ ap (λ w. take i old ++ w ∷ after old i w) same, drop_more old i v inside ∙ ap (λ w. w ∷ drop (i + 1) old) same)
    where
      at_end : (as' : List Voter) (k : ℕ) (w d : Voter) (rest : List Voter) → length as' ≡ k → get_or (as' ++ w ∷ rest) k d ≡ w
      at_end as' k w d rest long = get_or_at as' w rest d k long

  taken_out : (front rest : List Voter) (v : Voter) (i : ℕ) → length front ≡ i
      → take i (front ++ v ∷ rest) ++ drop (suc i) (front ++ v ∷ rest) ≡ front ++ rest
  taken_out front rest v i long =
      let past : length front + 1 ≡ suc i = omega (arith, long) in
      let left : drop (suc i) (front ++ v ∷ rest) ≡ rest =
      ap (λ k. drop k (front ++ v ∷ rest)) (sym past) ∙ drop-append-add front (v ∷ rest) 1 in
      ap (λ ws. ws ++ drop (suc i) (front ++ v ∷ rest)) (take_at front (v ∷ rest) i long) ∙ ap (λ ws. front ++ ws) left

  less : (f : Voter → ℕ) (front rest : List Voter) (v : Voter) → sum_by f (front ++ v ∷ rest) ≡ sum_by f (front ++ rest) + f v
  less f front rest v = omega (arith, sum_by-append f front (v ∷ rest), sum_by-append f front rest, sum_by-cons f v rest)

  module _ (old votes : List Voter) (from i own trusted : ℕ) (v : Voter) where
    -- the votes are split at the place, and their power is that of the others and of the one there
    abbrev others : List Voter
    others = take i old ++ after old i v

    pub record Split : Type 0 where
      pub inside : i < length old
      pub is : votes ≡ take i old ++ v ∷ after old i v
      pub rest : drop i old ≡ v ∷ drop (i + 1) old
      pub own_is : own ≡ sum_by (λ u. u.own) others + v.own
      pub trusted_is : trusted ≡ sum_by (λ u. u.trusted) others + v.trusted

    pub split_at : IsThinned needed old votes from own trusted → from ≡ i + 1 → v ≡ get_or votes i v → Split
    split_at t next read =
        let inside : i < length old = omega (arith, t.within, next) in
        let s = split old votes i v inside (t.is ∙ ap (λ k. take k old ++ thinned needed (take k old) (drop k old)) next) read in
        record {
          inside = inside;
          is = s.0;
          rest = s.1;
          own_is = t.own_is ∙ ap (λ ws. sum_by (λ u. u.own) ws) s.0 ∙ less (λ u. u.own) (take i old) (after old i v) v;
          trusted_is = t.trusted_is ∙ ap (λ ws. sum_by (λ u. u.trusted) ws) s.0 ∙ less (λ u. u.trusted) (take i old) (after old i v) v;
        }

    pub thinning_goes : IsThinned needed old votes from own trusted → from ≡ i + 1 → v ≡ get_or votes i v
        → needed.own ≤ own - v.own → needed.trusted ≤ trusted - v.trusted
        → (new : List Voter) → new ≡ take i votes ++ drop (suc i) votes
        → IsThinned needed old new i (own - v.own) (trusted - v.trusted)
    thinning_goes t next read own_enough trusted_enough new is_new =
        let s = split_at t next read in
        let new_is : new ≡ others =
        is_new ∙ ap (λ ws. take i ws ++ drop (suc i) ws) s.is
        ∙ taken_out (take i old) (after old i v) v i (length-take-le i old (omega (arith, s.inside))) in
        let enough : are_enough needed others ≡ true =
        are_enough-from needed others (record { own = omega (arith, own_enough, s.own_is); trusted = omega (arith, trusted_enough, s.trusted_is) }) in
        let one : thinned needed (take i old) (drop i old) ≡ after old i v =
        ap (λ ws. thinned needed (take i old) ws) s.rest
        ∙ cond-true (are_enough needed others) (after old i v) (v ∷ after old i v) enough in
        record {
          within = omega (arith, s.inside);
          is = new_is ∙ ap (λ ws. take i old ++ ws) (sym one);
          own_is = let e = ap (λ ws. sum_by (λ u. u.own) ws) new_is in omega (arith, e, s.own_is);
          trusted_is = let e = ap (λ ws. sum_by (λ u. u.trusted) ws) new_is in omega (arith, e, s.trusted_is);
        }

    pub thinning_stays : IsThinned needed old votes from own trusted → from ≡ i + 1 → v ≡ get_or votes i v
        → (needed.own ≤ own - v.own → needed.trusted ≤ trusted - v.trusted → ⊥)
        → IsThinned needed old votes i own trusted
    thinning_stays t next read fails =
        let s = split_at t next read in
        let short : are_enough needed others ≡ false =
        false_from_ne_true (are_enough needed others)
        (λ enough. let p = Passes-from needed others enough in fails (omega (arith, p.own, s.own_is)) (omega (arith, p.trusted, s.trusted_is))) in
        let one : thinned needed (take i old) (drop i old) ≡ v ∷ after old i v =
        ap (λ ws. thinned needed (take i old) ws) s.rest
        ∙ cond-false (are_enough needed others) (after old i v) (v ∷ after old i v) short in
        record {
          within = omega (arith, s.inside);
          is = s.is ∙ ap (λ ws. take i old ++ ws) (sym one);
          own_is = t.own_is;
          trusted_is = t.trusted_is;
        }
