-- The marks of a header's commit voters, and what they leave of a set.
use Rattle.std.proofs.Common.{◌≡◌, ◌≢◌, ℕ, zero, suc, ◌+◌, ◌*◌, ◌/◌, ◌%◌, ◌<◌, ◌≤◌, ◌⊎◌, ◌↔◌, Bool, true, false, cond, eqb, List, [], ◌∷◌, Option, Some, None, length, get_or, sum_by, position, take, refl, sym, ap, subst, ◌∙◌, inl, inr, arith}
use Rattle.std.specs.Int.{bit_at}
use Rattle.std.specs.Prelude.{slice_index}
use Rattle.std.proofs.lemmas.Bool.{cases_Bool, eq-eqb, ne_eqb, false≢true}
use Rattle.std.proofs.lemmas.List.{get_or_default}
use Rattle.std.proofs.lemmas.List.Quantifiers.{position-Some}
use Rattle.std.proofs.lemmas.List.Sums.{sum_by-cons, sum_by-take-le, sum_by_more, sum_by_more_le_part}
use Rattle.std.proofs.lemmas.Nat.{mul-le}
use Rattle.std.proofs.lemmas.Slice.Eq.{bytes_eq-Decides}
use Rattle.rb_base.specs.Fraction.{Ratio, Exceeds}
use Rattle.rb_valset.specs.Validator.{Member, address_of, has_address}
use Rattle.rb_valset.specs.ValidatorSet.{IsValidatorSet, total_of}
use Rattle.rb_book.specs.Header.{Header, is_commit}
use Rattle.rb_book.specs.declared.vote.Vote.{Vote}
use Rattle.rb_book.specs.declared.vote.Vote.TheVariants.{Commit}
use Rattle.rb_step.specs.SignedPower.{commit_voters, is_among, signed_power}
use Rattle.rb_step.proofs.Voters.{lent, lent-le, signed_power-lent, voter_found, voter_missing}
use Rattle.rb_cert.specs.Places.{IsMarked}
use Rattle.rb_cert.specs.Voters.{mark_of, AreVoterMarks}
use Rattle.rb_cert.proofs.Rising.{earlier_or_here}

-- ---- marking

-- the members before a place that voted to commit have their marks set
abbrev pub AreMarkedBefore : List ℕ → List Member → List Vote → ℕ → Type 0
AreMarkedBefore words own votes i = (j : ℕ) (d : Member) → j < i → j < length own → is_commit (get_or votes j Commit) ≡ true → IsMarked words (mark_of (address_of (get_or own j d).key))

module _ (own : List Member) (votes : List Vote) (i : ℕ) (m : Member) (words : List ℕ) (so_far : AreMarkedBefore words own votes i) where
  pub one_marked : (marked : List ℕ) → m ≡ get_or own i m → ((b : ℕ) → IsMarked marked b ↔ (IsMarked words b ⊎ (b ≡ mark_of (address_of m.key)))) → AreMarkedBefore marked own votes (i + 1)
  one_marked marked is more j d less within commit = go (earlier_or_here j i less)
    where
      go : (j < i) ⊎ (i ≡ j) → IsMarked marked (mark_of (address_of (get_or own j d).key))
      go (inl before) = (more _).1 (inl (so_far j d before within commit))
      go (inr same) =
          let here : get_or own j d ≡ m = get_or_default own j d m within ∙ ap (λ (k : ℕ). get_or own k m) (sym same) ∙ sym is in
          (more _).1 (inr (ap (λ (x : Member). mark_of (address_of x.key)) here))

  pub none_marked : is_commit (get_or votes i Commit) ≡ false → AreMarkedBefore words own votes (i + 1)
  none_marked passed j d less within commit = go (earlier_or_here j i less)
    where
      go : (j < i) ⊎ (i ≡ j) → IsMarked words (mark_of (address_of (get_or own j d).key))
      go (inl before) = so_far j d before within commit
      go (inr same) = absurd (false≢true (sym passed ∙ ap (λ (k : ℕ). is_commit (get_or votes k Commit)) same ∙ commit))

pub all_marked : (own : List Member) (h : Header) (words : List ℕ) (i : ℕ) → IsValidatorSet own → length h.votes ≡ length own → length own ≤ i → AreMarkedBefore words own h.votes i → AreVoterMarks words own h
all_marked own h words i valid votes whole so_far m among = go (position (has_address (address_of m.key)) own) refl
  where
    go : (o : Option ℕ) → position (has_address (address_of m.key)) own ≡ o → IsMarked words (mark_of (address_of m.key))
    go None missing = absurd (false≢true (sym (voter_missing own h m missing) ∙ among))
    go (Some place) found =
        let at = position-Some (has_address (address_of m.key)) own place m found in
        let commit : is_commit (get_or h.votes place Commit) ≡ true = voter_found own h m place Commit valid votes found ∙ among in
        let same : address_of (get_or own place m).key ≡ address_of m.key = (bytes_eq-Decides _ _).0 at.1 in
        let less : place < length own = at.0 in
        subst (λ (a : List ℕ). IsMarked words (mark_of a)) same (so_far place m (omega (arith, less, whole)) less commit)

-- ---- what the voters may hold

-- the power of a member whose mark isn't set
abbrev pub missing : List ℕ → Member → ℕ
missing words m = cond (eqb (bit_at (slice_index words (mark_of (address_of m.key) / 64)) (mark_of (address_of m.key) % 64)) 1) 0 m.power

pub missing_not_marked : (words : List ℕ) (m : Member) → ¬ IsMarked words (mark_of (address_of m.key)) → missing words m ≡ m.power
missing_not_marked words m not = ap (λ (b : Bool). cond b 0 m.power) (ne_eqb _ 1 not)

pub missing_marked : (words : List ℕ) (m : Member) → IsMarked words (mark_of (address_of m.key)) → missing words m ≡ 0
missing_marked words m marked = ap (λ (b : Bool). cond b 0 m.power) (eq-eqb _ 1 marked)

pub missing-le : (words : List ℕ) (m : Member) → missing words m ≤ m.power
missing-le words m =
    elim (eqb (bit_at (slice_index words (mark_of (address_of m.key) / 64)) (mark_of (address_of m.key) % 64)) 1) as (λ (b : Bool). cond b 0 m.power ≤ m.power) [ true ↦ omega arith | false ↦ omega arith ]

module _ (words : List ℕ) (own : List Member) (h : Header) (marks : AreVoterMarks words own h) where
  -- what a member lends isn't missing
  lent_or_missing : (m : Member) → lent (commit_voters own h) m + missing words m ≤ m.power
  lent_or_missing m = go (cases_Bool (is_among (commit_voters own h) m))
    where
      go : (is_among (commit_voters own h) m ≡ true) ⊎ (is_among (commit_voters own h) m ≡ false) → lent (commit_voters own h) m + missing words m ≤ m.power
      go (inl among) = omega (arith, lent-le (commit_voters own h) m, missing_marked words m (marks m among))
      go (inr apart) = let none : lent (commit_voters own h) m ≡ 0 = ap (λ (b : Bool). cond b m.power 0) apart in omega (arith, none, missing-le words m)

  lent_and_missing : (ms : List Member) → sum_by (lent (commit_voters own h)) ms + sum_by (missing words) ms ≤ total_of ms
  lent_and_missing [] = omega arith
  lent_and_missing (m ∷ ms) =
      omega (arith, sum_by-cons (lent (commit_voters own h)) m ms, sum_by-cons (missing words) m ms, sum_by-cons (λ (x : Member). x.power) m ms, lent_or_missing m, lent_and_missing ms)

  pub too_few : (set : List Member) (i most : ℕ) (trust : Ratio) → most + sum_by (missing words) (take i set) ≡ total_of set → ¬ Exceeds most (total_of set) trust → ¬ Exceeds (signed_power set own h) (total_of set) trust
  too_few set i most trust rest few more =
      let signed : signed_power set own h ≤ most = omega (arith, rest, signed_power-lent set own h, lent_and_missing set, sum_by-take-le (missing words) set i) in
      let product : signed_power set own h * trust.denominator ≤ most * trust.denominator = mul-le (signed_power set own h) trust.denominator most trust.denominator signed (omega arith) in
      few (omega (arith, product, more))

-- one member more whose mark isn't set, or is
module _ (words : List ℕ) (items : List Member) (i most : ℕ) (m : Member) (less : i < length items) (is : m ≡ get_or items i m) (rest : most + sum_by (missing words) (take i items) ≡ total_of items) where
  more : sum_by (missing words) (take (i + 1) items) ≡ sum_by (missing words) (take i items) + missing words m
  more = sum_by_more (missing words) items i m less ∙ ap (λ (x : Member). sum_by (missing words) (take i items) + missing words x) (sym is)

  pub power_left : m.power ≤ most
  power_left =
      let part = sum_by_more_le_part (missing words) (λ (x : Member). x.power) items i m less (missing-le words) in
      let here : m.power ≡ (get_or items i m).power = ap (λ (x : Member). x.power) is in
      omega (arith, part, here, rest)

  pub one_less : (left : ℕ) → ¬ IsMarked words (mark_of (address_of m.key)) → left + m.power ≡ most → left + sum_by (missing words) (take (i + 1) items) ≡ total_of items
  one_less left not e = omega (arith, more, missing_not_marked words m not, e, rest)

  pub same_left : IsMarked words (mark_of (address_of m.key)) → most + sum_by (missing words) (take (i + 1) items) ≡ total_of items
  same_left marked = omega (arith, more, missing_marked words m marked, rest)
