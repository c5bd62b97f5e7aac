-- how many votes an update carries, by each choice of a client
use Rattle.std.proofs.Common.{◌≡◌, ℕ, ◌+◌, ◌-◌, ◌≤◌, Bool, true, false, cond, eqb, List, [], ◌∷◌, Option, Some, None, length, count_by, refl, sym, ap, ◌∙◌, arith}
use Rattle.std.specs.Option.{option_map_or}
use Rattle.std.proofs.lemmas.Bool.{cond-true, cond-false, eq-eqb, ne_eqb}
use Rattle.std.proofs.lemmas.List.Sums.{count_by-le-length}
use Rattle.std.proofs.Math.Nat.{mul-le-mul}
use Rattle.rb_base.specs.Options.{ClientOptions}
use Rattle.rb_base.specs.declared.votes.CarriedVotes.{CarriedVotes}
use Rattle.rb_base.specs.declared.votes.CarriedVotes.TheVariants.{Commit, Cast, Needed}
use Rattle.rb_valset.specs.Validator.{Member}
use Rattle.rb_valset.specs.ValidatorSet.{IsValidatorSet, total_of}
use Rattle.rb_book.specs.Header.{Header, is_cast, is_commit}
use Rattle.rb_book.specs.declared.vote.Vote.{Vote}
use Rattle.rb_votes.specs.declared.voter.Voter.{Voter}
use Rattle.rb_votes.specs.Votes.{least_power, least_prefix, fewest_by, sent_votes}
use Rattle.rb_votes.proofs.Fewest.{least_own, sent_few, fewest_few}
use Rattle.rb_step.specs.Carried.{voters_from, voters_of, own_needed, trusted_needed, needed_of, needed_voters, carried_by, carried_votes, least_by, least_votes}
use Rattle.rb_step.specs.Laws.{LeastFeeIsLeast}
use Rattle.rb_step.proofs.CommitVoters.{voter, few_voters, voters_keep}

module _ (o : ClientOptions) (trusted_height : ℕ) (next : Option (List Member)) (h : Header) (own : List Member) where
  pub carried_commit : o.votes ≡ Commit → carried_votes o trusted_height next h own ≡ count_by is_commit h.votes
  unfolding carried_votes
  carried_commit is = ap (λ v. carried_by v o trusted_height next h own) is

  pub carried_cast : o.votes ≡ Cast → carried_votes o trusted_height next h own ≡ count_by is_cast h.votes
  unfolding carried_votes
  carried_cast is = ap (λ v. carried_by v o trusted_height next h own) is

  pub carried_needed : o.votes ≡ Needed → carried_votes o trusted_height next h own ≡ length (needed_voters o trusted_height next h own)
  unfolding carried_votes
  carried_needed is = ap (λ v. carried_by v o trusted_height next h own) is

  few_by : (v : CarriedVotes) → length h.votes ≡ length own → carried_by v o trusted_height next h own ≤ length own
  few_by Commit signed = omega (arith, count_by-le-length is_commit h.votes, signed)
  few_by Cast signed = omega (arith, count_by-le-length is_cast h.votes, signed)
  few_by Needed signed =
      omega (arith, sent_few (needed_of o trusted_height next h own) (voters_of next h own), few_voters next 0 own h.votes)

  -- no more than the own set has members
  pub carried_few : length h.votes ≡ length own → carried_votes o trusted_height next h own ≤ length own
  unfolding carried_votes
  carried_few signed = few_by o.votes signed

-- the power of the trusted record's next set that a step needs: none of it where the header is adjacent
module _ (o : ClientOptions) (t : ℕ) (next : Option (List Member)) (h : Header) where
  abbrev by_next : Option (List Member) → ℕ
  by_next x = option_map_or (λ n. least_power (total_of n) o.trust.numerator o.trust.denominator) x 0

  pub needed_adjacent : h.height ≡ t + 1 → 0 ≡ trusted_needed o t next h
  needed_adjacent is = sym (cond-true (eqb h.height (t + 1)) 0 (by_next next) (eq-eqb h.height (t + 1) is))

  needed_far : (h.height ≡ t + 1 → ⊥) → trusted_needed o t next h ≡ by_next next
  needed_far far = cond-false (eqb h.height (t + 1)) 0 (by_next next) (ne_eqb h.height (t + 1) far)

  pub needed_known : (h.height ≡ t + 1 → ⊥) → (n : List Member) → next ≡ Some n → least_power (total_of n) o.trust.numerator o.trust.denominator ≡ trusted_needed o t next h
  needed_known far n is = sym (needed_far far ∙ ap by_next is)

  pub needed_unknown : (h.height ≡ t + 1 → ⊥) → next ≡ None → 0 ≡ trusted_needed o t next h
  needed_unknown far is = sym (needed_far far ∙ ap by_next is)

-- two trusted heights that the header doesn't come right after are alike
module _ (o : ClientOptions) (t u : ℕ) (next : Option (List Member)) (h : Header) (own : List Member) (t_far : h.height ≡ t + 1 → ⊥) (u_far : h.height ≡ u + 1 → ⊥) where
  same_needed : trusted_needed o t next h ≡ trusted_needed o u next h
  same_needed = needed_far o t next h t_far ∙ sym (needed_far o u next h u_far)

  same_by : (v : CarriedVotes) → carried_by v o t next h own ≡ carried_by v o u next h own
  same_by Commit = refl
  same_by Cast = refl
  same_by Needed = ap (λ n. length (sent_votes (record { own = own_needed own; trusted = n }) (voters_of next h own))) same_needed

  pub carried_same : carried_votes o t next h own ≡ carried_votes o u next h own
  unfolding carried_votes
  carried_same = same_by o.votes

module _ (o : ClientOptions) (h : Header) (own : List Member) where
  least_few_by : (v : CarriedVotes) → length h.votes ≡ length own → least_by v h own ≤ length own
  least_few_by Commit signed = omega (arith, count_by-le-length is_commit h.votes, signed)
  least_few_by Cast signed = omega (arith, count_by-le-length is_cast h.votes, signed)
  least_few_by Needed signed = omega (arith, fewest_few (λ v. v.own) (own_needed own) (voters_of None h own), few_voters None 0 own h.votes)

  pub least_few : length h.votes ≡ length own → least_votes o h own ≤ length own
  unfolding least_votes
  least_few signed = least_few_by o.votes signed

  pub least_commit : o.votes ≡ Commit → least_votes o h own ≡ count_by is_commit h.votes
  unfolding least_votes
  least_commit is = ap (λ v. least_by v h own) is

  pub least_cast : o.votes ≡ Cast → least_votes o h own ≡ count_by is_cast h.votes
  unfolding least_votes
  least_cast is = ap (λ v. least_by v h own) is

  pub least_need : o.votes ≡ Needed → least_votes o h own ≡ length (fewest_by (λ v. v.own) (own_needed own) (voters_of None h own))
  unfolding least_votes
  least_need is = ap (λ v. least_by v h own) is

-- of voters in an order the first that have so much own power
abbrev first_of : ℕ → List Voter → List Voter
first_of left voters = least_prefix (λ v. v.own) left voters

module _ (next other : Option (List Member)) (place left : ℕ) (m : Member) (us ws : List Voter) (past : length (first_of left us) ≡ length (first_of left ws))
    (after : length (first_of (left - m.power) us) ≡ length (first_of (left - m.power) ws)) where
  same_one : (b : Bool) → length (first_of left (cond b (voter next place m ∷ us) us)) ≡ length (first_of left (cond b (voter other place m ∷ ws) ws))
  same_one false = past
  same_one true =
      elim (eqb left 0) as (λ (x : Bool). length (cond x [] (voter next place m ∷ first_of (left - m.power) us)) ≡ length (cond x [] (voter other place m ∷ first_of (left - m.power) ws))) [
        | true ↦ refl
        | false ↦ omega (arith, after)
      ]

-- the own power of the voters is the same whatever the next set
same_prefix : (next other : Option (List Member)) (left place : ℕ) (ms : List Member) (vs : List Vote)
    → length (first_of left (voters_from place next ms vs)) ≡ length (first_of left (voters_from place other ms vs))
same_prefix next other left place [] vs = refl
same_prefix next other left place (m ∷ ms) [] = refl
same_prefix next other left place (m ∷ ms) (v ∷ vs) =
    same_one next other place left m (voters_from (place + 1) next ms vs) (voters_from (place + 1) other ms vs) (same_prefix next other left (place + 1) ms vs)
    (same_prefix next other (left - m.power) (place + 1) ms vs) (is_commit v)

pub same_fewest : (next other : Option (List Member)) (n : ℕ) (h : Header) (own : List Member) → IsValidatorSet own
    → length (fewest_by (λ v. v.own) n (voters_of next h own)) ≡ length (fewest_by (λ v. v.own) n (voters_of other h own))
same_fewest next other n h own valid =
    ap (λ ws. length (first_of n ws)) (voters_keep next h own valid)
    ∙ same_prefix next other n 0 own h.votes
    ∙ sym (ap (λ ws. length (first_of n ws)) (voters_keep other h own valid))

-- so the fewest by the own set alone are no more than any step's
module _ (o : ClientOptions) (trusted_height : ℕ) (next : Option (List Member)) (h : Header) (own : List Member) (valid : IsValidatorSet own) where
  fewest_le : length (fewest_by (λ v. v.own) (own_needed own) (voters_of None h own)) ≤ length (needed_voters o trusted_height next h own)
  fewest_le =
      omega (arith, same_fewest None next (own_needed own) h own valid, least_own (needed_of o trusted_height next h own) (voters_of next h own))

  le_by : (v : CarriedVotes) → least_by v h own ≤ carried_by v o trusted_height next h own
  le_by Commit = omega arith
  le_by Cast = omega arith
  le_by Needed = fewest_le

  pub least_le : least_votes o h own ≤ carried_votes o trusted_height next h own
  unfolding least_votes carried_votes
  least_le = le_by o.votes

pub least_fee_is_least_lem : LeastFeeIsLeast
least_fee_is_least_lem o fees s valid =
    let same : fees.signature ≤ fees.signature = omega arith in
    let fewer = mul-le-mul same (least_le o s.trusted_height s.next s.header s.own valid) in
    omega (arith, fewer)
