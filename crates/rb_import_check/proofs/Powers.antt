-- The power of the members whose votes count, member by member.
use Rattle.std.proofs.Common.{◌≡◌, ℕ, ◌+◌, ◌<◌, ◌≤◌, List, [], ◌∷◌, ◌++◌, length, get_or, take, drop, map, filter, cond, Bool, true, false, Option, refl, sym, ap, ◌∙◌, arith}
use Rattle.std.specs.Prelude.{slice_get, sum_by}
use Rattle.std.specs.List.{enumerate_from, zip}
use Rattle.std.proofs.lemmas.List.{length-take-le, take_more, take-append-drop}
use Rattle.std.proofs.lemmas.List.Sums.{sum_by-append, sum_by-cons}
use Rattle.rb_valset.specs.Validator.{Member}
use Rattle.rb_valset.specs.ValidatorSet.{total_of}
use Rattle.rb_import_answers.specs.declared.commit.Signature.{Signature}
use Rattle.rb_import_answers.specs.declared.verdicts.CommitVerdict.{CommitVerdict}
use Rattle.rb_import_check.specs.declared.signed.Signatures.{Signatures}
use Rattle.rb_import_check.specs.Signed.{counts, counts_at, signed_power}

abbrev power : Member → ℕ
power m = m.power

module _ (signatures : Signatures) (verdict : Option CommitVerdict) where
  abbrev Voter : Type 0
  Voter = Member × (ℕ × Signature)

  -- the power of the members of a set whose votes count, of votes that stand from this place on
  pub power_from : ℕ → List Signature → List Member → ℕ
  power_from n votes set = sum_by power (map (λ (p : Voter). p.0) (filter (λ (p : Voter). counts signatures verdict p.1.0 p.1.1) (zip set (enumerate_from n votes))))

  first : (b : Bool) (p : Voter) (rest : List Voter) → sum_by power (map (λ (q : Voter). q.0) (cond b (p ∷ rest) rest)) ≡ cond b p.0.power 0 + sum_by power (map (λ (q : Voter). q.0) rest)
  first true p rest = sum_by-cons power p.0 (map (λ (q : Voter). q.0) rest)
  first false p rest = plus_none (sum_by power (map (λ (q : Voter). q.0) rest))
    where
      plus_none : (k : ℕ) → k ≡ 0 + k
      plus_none k = omega arith

  -- the first member's power, if its vote counts, and that of the others
  pub power_cons : (n : ℕ) (s : Signature) (votes : List Signature) (m : Member) (set : List Member)
      → power_from n (s ∷ votes) (m ∷ set) ≡ cond (counts signatures verdict n s) m.power 0 + power_from (n + 1) votes set
  unfolding power_from
  power_cons n s votes m set =
      first (counts signatures verdict n s) (m, (n, s)) (filter (λ (p : Voter). counts signatures verdict p.1.0 p.1.1) (zip set (enumerate_from (n + 1) votes)))

  pub none_votes : (n : ℕ) (set : List Member) → power_from n [] set ≡ 0
  unfolding power_from
  none_votes n [] = refl
  none_votes n (m ∷ set) = refl

  pub none_members : (n : ℕ) (votes : List Signature) → power_from n votes [] ≡ 0
  unfolding power_from
  none_members n [] = refl
  none_members n (s ∷ votes) = refl

  -- the last one's likewise
  power_push : (n : ℕ) (votes : List Signature) (set : List Member) (m : Member)
      → power_from n votes (set ++ m ∷ []) ≡ power_from n votes set + cond (counts_at signatures verdict (n + length set) (slice_get votes (length set))) m.power 0
  unfolding power_from
  power_push n [] set m = both_none (power_from n [] (set ++ m ∷ [])) (power_from n [] set) (none_votes n (set ++ m ∷ [])) (none_votes n set)
    where
      both_none : (a b : ℕ) → a ≡ 0 → b ≡ 0 → a ≡ b + 0
      both_none a b one other = omega (arith, one, other)
  power_push n (s ∷ votes) [] m =
      power_cons n s votes m [] ∙ swapped (cond (counts signatures verdict n s) m.power 0) (cond (counts signatures verdict (n + 0) s) m.power 0) (ap (λ k. cond (counts signatures verdict k s) m.power 0) (plus_zero n))
    where
      plus_zero : (k : ℕ) → k ≡ k + 0
      plus_zero k = omega arith

      swapped : (a b : ℕ) → a ≡ b → a + 0 ≡ 0 + b
      swapped a b same = omega (arith, same)
  power_push n (s ∷ votes) (x ∷ set) m =
      let place : (n + 1) + length set ≡ n + length (x ∷ set) = omega arith in
      moved _ _ _ _ _ _ (power_cons n s votes x (set ++ m ∷ [])) (power_cons n s votes x set) (power_push (n + 1) votes set m) (ap (λ k. cond (counts_at signatures verdict k (slice_get votes (length set))) m.power 0) place)
    where
      moved : (a b own later more more' : ℕ) {rest : ℕ} → a ≡ own + rest → b ≡ own + later → rest ≡ later + more → more ≡ more' → a ≡ b + more'
      moved a b own later more more' whole less with same = omega (arith, whole, less, with, same)

  -- of no members it is none
  pub power_none : (votes : List Signature) (set : List Member) → 0 ≡ power_from 0 votes (take 0 set)
  unfolding power_from
  power_none [] [] = refl
  power_none [] (m ∷ set) = refl
  power_none (s ∷ votes) [] = refl
  power_none (s ∷ votes) (m ∷ set) = refl

  -- of the members so far one more
  pub power_more : (votes : List Signature) (set : List Member) (i : ℕ) (m : Member) → i < length set → m ≡ get_or set i m
      → power_from 0 votes (take (i + 1) set) ≡ power_from 0 votes (take i set) + cond (counts_at signatures verdict i (slice_get votes i)) m.power 0
  power_more votes set i m small is =
      let long : length (take i set) ≡ i = length-take-le i set (omega (arith, small)) in
      let place : 0 + length (take i set) ≡ length (take i set) = omega arith in
      ap (power_from 0 votes) (take_more set i m small ∙ ap (λ x. take i set ++ x ∷ []) (sym is)) ∙ power_push 0 votes (take i set) m
      ∙ ap (λ k. power_from 0 votes (take i set) + cond (counts_at signatures verdict k (slice_get votes (length (take i set)))) m.power 0) place
      ∙ ap (λ k. power_from 0 votes (take i set) + cond (counts_at signatures verdict k (slice_get votes k)) m.power 0) long

  -- it is at most the power of all
  power_fits : (n : ℕ) (votes : List Signature) (set : List Member) → power_from n votes set ≤ total_of set
  unfolding power_from
  power_fits n [] set = let none = none_votes n set in omega (arith, none)
  power_fits n (s ∷ votes) [] = zero_least (total_of [])
    where
      zero_least : (k : ℕ) → 0 ≤ k
      zero_least k = omega arith
  power_fits n (s ∷ votes) (m ∷ set) =
      let whole = power_cons n s votes m set in
      let total : total_of (m ∷ set) ≡ m.power + total_of set = sum_by-cons power m set in
      let rest = power_fits (n + 1) votes set in
      let own = at_most (counts signatures verdict n s) m.power in
      omega (arith, whole, total, rest, own)
    where
      at_most : (b : Bool) (k : ℕ) → cond b k 0 ≤ k
      at_most true k = omega arith
      at_most false k = omega arith

  pub power_bound : (votes : List Signature) (set : List Member) (i : ℕ) → power_from 0 votes (take i set) ≤ total_of set
  power_bound votes set i =
      let fits = power_fits 0 votes (take i set) in
      let parts : total_of (take i set ++ drop i set) ≡ total_of (take i set) + total_of (drop i set) = sum_by-append power (take i set) (drop i set) in
      let whole = ap total_of (take-append-drop i set) in
      omega (arith, fits, parts, whole)

  -- of all members it is what they signed with
  pub power_whole : (votes : List Signature) (set : List Member) → power_from 0 votes set ≡ signed_power signatures verdict votes set
  unfolding signed_power power_from
  power_whole votes set = refl
