-- the loop over a header's commit votes that counts those that the own set's test needs
use Rattle.std.proofs.Common.{◌≡◌, ℕ, ◌+◌, ◌-◌, ◌<◌, ◌≤◌, Bool, true, false, eqb, List, [], ◌∷◌, Option, length, get_or, sum_by, sym, ap, ◌∙◌, subst, arith}
use Rattle.std.proofs.lemmas.Bool.{cond-false, ne_eqb}
use Rattle.std.proofs.lemmas.List.Sums.{sum_by-cons}
use Rattle.rb_valset.specs.Validator.{Member}
use Rattle.rb_valset.specs.ValidatorSet.{IsValidatorSet}
use Rattle.rb_book.specs.Header.{Header, is_commit}
use Rattle.rb_book.specs.declared.vote.Vote.{Vote}
use Rattle.rb_votes.specs.declared.voter.Voter.{Voter}
use Rattle.rb_votes.specs.declared.voter.Needed.{Needed}
use Rattle.rb_votes.specs.Votes.{least_prefix, fewest_by}
use Rattle.rb_votes.proofs.Prefixes.{prefix_none}
use Rattle.rb_step.specs.Carried.{power_in, voters_of}
use Rattle.rb_step.proofs.CommitVoters.{voter, voters_at, one_votes, one_passes, none_left, voters_keep}

module _ (next : Option (List Member)) (own : List Member) (h : Header) (needed : Needed) where
  -- of voters from a place on, those who have what is left to have
  abbrev first_of : ℕ → List Voter → List Voter
  first_of left voters = least_prefix (λ v. v.own) left voters

  abbrev from : ℕ → List Voter
  from place = voters_at next own h place

  abbrev fewest : List Voter
  fewest = fewest_by (λ v. v.own) needed.own (voters_of next h own)

  abbrev trusted_of : List Voter → ℕ
  trusted_of voters = sum_by (λ v. v.trusted) voters

  -- so many are counted before the place, so much is left to have, and so much of the other power is lacking
  pub record IsWalked (place count left lacking : ℕ) : Type 0 where
    pub few : count ≤ place
    pub is : count + length (first_of left (from place)) ≡ length (first_of needed.own (voters_of next h own))
    pub lacks : lacking - trusted_of (first_of left (from place)) ≡ needed.trusted - trusted_of (first_of needed.own (voters_of next h own))

  pub walk_start : IsWalked 0 0 needed.own needed.trusted
  walk_start = record { few = omega arith; is = omega arith; lacks = omega arith }

  module _ (place count left lacking : ℕ) (valid : IsValidatorSet own) (walked : IsWalked place count left lacking) (none : first_of left (from place) ≡ []) where
    pub over_count : count ≡ length fewest
    over_count =
        let no_more = ap (λ (ws : List Voter). length ws) none in
        let counted : count ≡ length (first_of needed.own (voters_of next h own)) = omega (arith, walked.is, no_more) in
        counted ∙ sym (ap (λ ws. length (first_of needed.own ws)) (voters_keep next h own valid))

    pub over_lacks : lacking ≡ needed.trusted - trusted_of fewest
    over_lacks =
        let no_more = ap (λ ws. trusted_of ws) none in
        let lacks : lacking ≡ needed.trusted - trusted_of (first_of needed.own (voters_of next h own)) = omega (arith, walked.lacks, no_more) in
        lacks ∙ sym (ap (λ ws. needed.trusted - trusted_of (first_of needed.own ws)) (voters_keep next h own valid))

  pub none_wanted : (place left : ℕ) → left ≡ 0 → first_of left (from place) ≡ []
  none_wanted place left none = ap (λ n. first_of n (from place)) none ∙ prefix_none (λ v. v.own) (from place)

  pub none_there : (place left : ℕ) → length own ≤ place → first_of left (from place) ≡ []
  none_there place left past = ap (λ ws. first_of left ws) (none_left next own h place past)

  module _ (items : List Member) (votes : List Vote) (place : ℕ) (m : Member) (v : Vote) (commits : Bool)
      (same : items ≡ own) (same_votes : votes ≡ h.votes) (signed : length h.votes ≡ length own) (within : place < length items) (is : m ≡ get_or items place m)
      (vote : commits ≡ is_commit (get_or votes place v)) (count left lacking : ℕ) (walked : IsWalked place count left lacking) where
    walk_commit : (left ≡ 0 → ⊥) → commits ≡ true → IsWalked (place + 1) (count + 1) (left - m.power) (lacking - power_in next m)
    walk_commit some holds =
        let w = voter next place m in
        let one : first_of left (from place) ≡ w ∷ first_of (left - m.power) (from (place + 1)) =
        ap (λ ws. first_of left ws) (one_votes next own h items votes place m v commits same same_votes signed within is vote holds)
        ∙ cond-false (eqb left 0) [] (w ∷ first_of (left - m.power) (from (place + 1))) (ne_eqb left 0 some) in
        let long = ap (λ (ws : List Voter). length ws) one in
        let power = ap (λ ws. trusted_of ws) one in
        record {
          few = omega (arith, walked.few);
          is = omega (arith, walked.is, long);
          lacks = omega (arith, walked.lacks, power, sum_by-cons (λ (u : Voter). u.trusted) w (first_of (left - m.power) (from (place + 1))));
        }

    walk_past : commits ≡ false → IsWalked (place + 1) count left lacking
    walk_past fails =
        let same_rest = one_passes next own h items votes place m v commits same same_votes signed within is vote fails in
        record {
          few = omega (arith, walked.few);
          is = sym (ap (λ ws. count + length (first_of left ws)) same_rest) ∙ walked.is;
          lacks = sym (ap (λ ws. lacking - trusted_of (first_of left ws)) same_rest) ∙ walked.lacks;
        }

    -- the same in the numbers of a caller
    pub walk_counts : (left ≡ 0 → ⊥) → commits ≡ true → (count' left' lacking' : ℕ) → count' ≡ count + 1 → left' ≡ left - m.power → lacking' ≡ lacking - power_in next m
        → IsWalked (place + 1) count' left' lacking'
    walk_counts some holds count' left' lacking' is_count is_left is_lacking =
        subst (λ n. IsWalked (place + 1) n left' lacking') (sym is_count)
        (subst (λ n. IsWalked (place + 1) (count + 1) n lacking') (sym is_left)
        (subst (λ n. IsWalked (place + 1) (count + 1) (left - m.power) n) (sym is_lacking) (walk_commit some holds)))

    pub walk_passes : commits ≡ false → IsWalked (place + 1) count left lacking
    walk_passes fails = walk_past fails
