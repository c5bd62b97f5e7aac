-- a header with some of its commit votes: whose votes these are, and that it is accepted where they are enough
use Rattle.std.proofs.Common.{◌≡◌, ℕ, zero, suc, ◌+◌, ◌*◌, ◌<◌, ◌≤◌, ◌==◌, Bool, true, false, cond, ◌||◌, List, [], ◌∷◌, ◌++◌, Option, Some, None, IfSome, IsSome, length, get_or, filter, sum_by, refl, sym, ap, ◌∙◌, subst, inl, inr, arith}
use Rattle.std.specs.List.{All, IsDistinct}
use Rattle.std.specs.List.Sorted.{IsPermutation}
use Rattle.std.specs.Option.{option_map_or}
use Rattle.std.proofs.lemmas.Bool.{cond-true, cond-false, cases_Bool, false≢true, eqb-true, eqb-false, eq-eqb, ne_eqb}
use Rattle.std.proofs.lemmas.List.{drop_at}
use Rattle.std.proofs.lemmas.List.Elements.{All-nil, All-cons, All-drop, All-from_recursion, All-weaker, recursion_from_All}
use Rattle.std.proofs.lemmas.Map.Keys.{IsDistinct-from_apart, IsDistinct-cons, IsDistinct-head, IsDistinct-tail, IsDistinct-IsPermutation}
use Rattle.std.proofs.lemmas.List.Sums.{sum_by-cons, sum_by-append}
use Rattle.std.proofs.lemmas.List.Sorted.{sum_by-IsPermutation}
use Rattle.std.proofs.Math.Nat.{div-lt_iff_lt-mul}
use Rattle.rb_base.specs.Fraction.{Exceeds}
use Rattle.rb_base.specs.Options.{ClientOptions}
use Rattle.rb_valset.specs.Validator.{Member}
use Rattle.rb_valset.specs.ValidatorSet.{IsValidatorSet, total_of}
use Rattle.rb_book.specs.Header.{Header, is_commit}
use Rattle.rb_book.specs.declared.vote.Vote.{Vote}
use Rattle.rb_book.specs.declared.vote.Vote.TheVariants.{Absent}
use Rattle.rb_votes.specs.declared.voter.Voter.{Voter}
use Rattle.rb_votes.specs.declared.voter.Needed.{Needed}
use Rattle.rb_votes.specs.Places.{StandByPlace}
use Rattle.rb_votes.specs.Votes.{Passes, IsPart, least_power, sent_votes}
use Rattle.rb_votes.proofs.Sent.{sent_part, sent_enough, sent_least, sent_twice}
use Rattle.rb_step.specs.Carried.{voters_from, voters_of, own_needed, trusted_needed, needed_of, needed_voters, is_of, votes_of, only_votes}
use Rattle.rb_step.specs.Laws.{NeededIsAccepted, NeededAreFewest}
use Rattle.rb_step.specs.SignedPower.{signed_power}
use Rattle.rb_step.specs.StepRule.{Step, Accepts, IsAdjacent}
use Rattle.rb_step.proofs.CommitVoters.{voter, voters_stand, own_power, trusted_power}

-- ---- the votes that are left

abbrev among : List Voter → Voter → Bool
among voters w = is_of voters w.place

module _ (next : Option (List Member)) (voters : List Voter) (place : ℕ) (m : Member) (v : Vote) (left all : List Voter) (rest : left ≡ filter (among voters) all) where
  one_left : (one commits : Bool) → is_of voters place ≡ one → is_commit v ≡ commits
      → cond (is_commit (cond one v Absent)) (voter next place m ∷ left) left ≡ filter (among voters) (cond commits (voter next place m ∷ all) all)
  one_left true true one commits =
      cond-true (is_commit v) (voter next place m ∷ left) left commits
      ∙ ap (λ ws. voter next place m ∷ ws) rest
      ∙ sym (cond-true (is_of voters place) (voter next place m ∷ filter (among voters) all) (filter (among voters) all) one)
  one_left true false one commits = cond-false (is_commit v) (voter next place m ∷ left) left commits ∙ rest
  one_left false true one commits =
      rest ∙ sym (cond-false (is_of voters place) (voter next place m ∷ filter (among voters) all) (filter (among voters) all) one)
  one_left false false one commits = rest

-- the commit voters of the header with these votes alone are those of the header who are among them
voters_left : (next : Option (List Member)) (voters : List Voter) (place : ℕ) (ms : List Member) (vs : List Vote)
    → voters_from place next ms (votes_of voters place vs) ≡ filter (among voters) (voters_from place next ms vs)
voters_left next voters place [] vs = refl
voters_left next voters place (m ∷ ms) [] = refl
voters_left next voters place (m ∷ ms) (v ∷ vs) =
    one_left next voters place m v (voters_from (place + 1) next ms (votes_of voters (place + 1) vs)) (voters_from (place + 1) next ms vs)
    (voters_left next voters (place + 1) ms vs) (is_of voters place) (is_commit v) refl refl

-- ---- their power

abbrev counted : (Voter → ℕ) → List Voter → Voter → ℕ
counted f voters w = cond (among voters w) (f w) 0

sum-filter : (f : Voter → ℕ) (voters ws : List Voter) → sum_by f (filter (among voters) ws) ≡ sum_by (counted f voters) ws
sum-filter f voters [] = refl
sum-filter f voters (w ∷ ws) = by (among voters w) refl (sum-filter f voters ws)
  where
    by : (b : Bool) → among voters w ≡ b → sum_by f (filter (among voters) ws) ≡ sum_by (counted f voters) ws
        → sum_by f (cond b (w ∷ filter (among voters) ws) (filter (among voters) ws)) ≡ sum_by (counted f voters) (w ∷ ws)
    by true is rest =
        let mine = cond-true (among voters w) (f w) 0 is in
        omega (arith, rest, mine, sum_by-cons f w (filter (among voters) ws), sum_by-cons (counted f voters) w ws)
    by false is rest =
        let mine = cond-false (among voters w) (f w) 0 is in
        omega (arith, rest, mine, sum_by-cons (counted f voters) w ws)

among-cons : (u : Voter) (voters : List Voter) (w : Voter) → among voters w ≡ true → among (u ∷ voters) w ≡ true
among-cons u voters w is = by (u.place == w.place)
  where
    by : (b : Bool) → (b || among voters w) ≡ true
    by true = refl
    by false = is

all_among : (voters : List Voter) → All (λ w. among voters w ≡ true) voters
all_among [] = All-nil (λ w. among [] w ≡ true)
all_among (u ∷ voters) =
    All-cons (λ w. among (u ∷ voters) w ≡ true) u voters
    (ap (λ b. b || among voters u) (eq-eqb u.place u.place refl))
    (All-weaker (λ w. among voters w ≡ true) (λ w. among (u ∷ voters) w ≡ true) (λ w is. among-cons u voters w is) voters (all_among voters))

sum_counted : (f : Voter → ℕ) (voters ws : List Voter) → All (λ w. among voters w ≡ true) ws → sum_by (counted f voters) ws ≡ sum_by f ws
sum_counted f voters [] all = refl
sum_counted f voters (w ∷ ws) all =
    let mine = cond-true (among voters w) (f w) 0 (all 0 w (omega arith)) in
    omega (
      arith,
      mine,
      sum_by-cons f w ws,
      sum_by-cons (counted f voters) w ws,
      sum_counted f voters ws (λ k d within. all (suc k) d (omega (arith, within))),
    )

-- those who are among some of the voters have at least the power of these
part_left : (f : Voter → ℕ) (voters all : List Voter) → IsPart voters all → sum_by f voters ≤ sum_by f (filter (among voters) all)
part_left f voters all part =
    omega (
      arith,
      sum-filter f voters all,
      sum_by-IsPermutation (counted f voters) all (voters ++ part.0) part.1,
      sum_by-append (counted f voters) voters part.0,
      sum_counted f voters voters (all_among voters),
    )

-- each place is that of one voter
abbrev same_place : Voter → Voter → Bool
same_place v w = v.place == w.place

distinct_places : (all : List Voter) → StandByPlace all → IsDistinct same_place all
distinct_places [] stand = IsDistinct-from_apart same_place [] (λ i j d less within. absurd (omega (arith, within)))
distinct_places (v ∷ vs) stand =
    IsDistinct-cons same_place v vs
    (recursion_from_All (λ w. same_place v w ≡ false) vs
    (All-weaker (λ w. v.place < w.place) (λ w. same_place v w ≡ false) (λ w below. ne_eqb v.place w.place (λ same. absurd (omega (arith, below, same)))) vs
    (All-from_recursion (λ w. v.place < w.place) vs stand.0)))
    (distinct_places vs stand.1)

flipped : (v w : Voter) → same_place v w ≡ same_place w v
flipped v w = elim (cases_Bool (same_place w v)) [
  | inl holds ↦ eq-eqb v.place w.place (sym (eqb-true w.place v.place holds)) ∙ sym holds
  | inr fails ↦ ne_eqb v.place w.place (λ same. eqb-false w.place v.place fails (sym same)) ∙ sym fails
]

rest_none : (voters rest : List Voter) → IsDistinct same_place (voters ++ rest) → All (λ w. among voters w ≡ false) rest
rest_none [] rest distinct = λ k d within. refl
rest_none (v ∷ vs) rest distinct =
    let head : All (λ w. same_place v w ≡ false) (vs ++ rest) = All-from_recursion (λ w. same_place v w ≡ false) (vs ++ rest) (IsDistinct-head same_place v (vs ++ rest) distinct) in
    let here : All (λ w. same_place v w ≡ false) rest =
    subst (All (λ w. same_place v w ≡ false)) (drop_at vs rest (length vs) refl) (All-drop (λ w. same_place v w ≡ false) (length vs) (vs ++ rest) head) in
    let later = rest_none vs rest (IsDistinct-tail same_place v (vs ++ rest) distinct) in
    λ k d within. ap (λ b. b || among vs (get_or rest k d)) (here k d within) ∙ later k d within

sum_uncounted : (f : Voter → ℕ) (voters ws : List Voter) → All (λ w. among voters w ≡ false) ws → sum_by (counted f voters) ws ≡ 0
sum_uncounted f voters [] all = refl
sum_uncounted f voters (w ∷ ws) all =
    let mine = cond-false (among voters w) (f w) 0 (all 0 w (omega arith)) in
    omega (arith, mine, sum_by-cons (counted f voters) w ws, sum_uncounted f voters ws (λ k d within. all (suc k) d (omega (arith, within))))

-- where all stand by place it is just their power
part_exact : (f : Voter → ℕ) (voters all : List Voter) → IsPart voters all → StandByPlace all → sum_by f (filter (among voters) all) ≡ sum_by f voters
part_exact f voters all part stand =
    let distinct = IsDistinct-IsPermutation same_place flipped all (voters ++ part.0) part.1 (distinct_places all stand) in
    omega (
      arith,
      sum-filter f voters all,
      sum_by-IsPermutation (counted f voters) all (voters ++ part.0) part.1,
      sum_by-append (counted f voters) voters part.0,
      sum_counted f voters voters (all_among voters),
      sum_uncounted f voters part.0 (rest_none voters part.0 distinct),
    )

-- ---- the tests

-- more than a fraction is at least the least such power
exceeds_from : (power total numerator denominator : ℕ) → 0 < denominator → least_power total numerator denominator ≤ power → total * numerator < power * denominator
exceeds_from power total numerator denominator some enough =
    (div-lt_iff_lt-mul {k = denominator} {x = total * numerator} {y = power} some).0 (omega (arith, enough))

least_from : (power total numerator denominator : ℕ) → 0 < denominator → total * numerator < power * denominator → least_power total numerator denominator ≤ power
least_from power total numerator denominator some more =
    let less = (div-lt_iff_lt-mul {k = denominator} {x = total * numerator} {y = power} some).1 more in omega (arith, less)

some_denominator : (power total numerator denominator : ℕ) → total * numerator < power * denominator → 0 < denominator
some_denominator power total numerator zero more = absurd (omega (arith, more))
some_denominator power total numerator (suc n) more = omega arith

-- the power that these voters lend, from what they have
module _ (next : Option (List Member)) (h : Header) (own : List Member) (voters : List Voter) (part : IsPart voters (voters_of next h own)) where
  left_at_least : (f : Voter → ℕ) → sum_by f voters ≤ sum_by f (voters_of next (only_votes voters h) own)
  left_at_least f =
      let e = ap (λ (ws : List Voter). sum_by f ws) (voters_left next voters 0 own h.votes) in
      omega (arith, e, part_left f voters (voters_of next h own) part)

  left_own : IsValidatorSet own → sum_by (λ v. v.own) voters ≤ signed_power own own (only_votes voters h)
  left_own valid = omega (arith, left_at_least (λ v. v.own), own_power next own (only_votes voters h) valid)

left_trusted : (n : List Member) (h : Header) (own : List Member) (voters : List Voter) → IsPart voters (voters_of (Some n) h own) → IsValidatorSet n → IsValidatorSet own
    → sum_by (λ v. v.trusted) voters ≤ signed_power n own (only_votes voters h)
left_trusted n h own voters part next_valid valid =
    omega (arith, left_at_least (Some n) h own voters part (λ v. v.trusted), trusted_power n own (only_votes voters h) next_valid valid)

-- all commit voters pass where the step is accepted
module _ (o : ClientOptions) (moment : ℕ) (s : Step) (n : List Member) (known : s.next ≡ Some n) (valid : IsValidatorSet s.own) (next_valid : IsValidatorSet n) (accepted : Accepts o moment s) where
  abbrev needed : Needed
  needed = needed_of o s.trusted_height s.next s.header s.own

  abbrev all : List Voter
  all = voters_of s.next s.header s.own

  own_enough : needed.own ≤ sum_by (λ v. v.own) all
  own_enough =
      omega (
        arith,
        least_from (signed_power s.own s.own s.header) (total_of s.own) 2 3 (omega arith) accepted.own_signed,
        own_power s.next s.own s.header valid,
      )

  trusted_by : (adjacent : Bool) → (s.header.height == s.trusted_height + 1) ≡ adjacent → needed.trusted ≤ sum_by (λ v. v.trusted) all
  trusted_by true is =
      let none = cond-true (s.header.height == s.trusted_height + 1) 0 (option_map_or (λ m. least_power (total_of m) o.trust.numerator o.trust.denominator) s.next 0) is in
      omega (arith, none)
  trusted_by false is =
      let far : ¬ IsAdjacent s = eqb-false s.header.height (s.trusted_height + 1) is in
      let signed : Exceeds (signed_power n s.own s.header) (total_of n) o.trust =
      subst (λ (x : Option (List Member)). IfSome x (λ m. Exceeds (signed_power m s.own s.header) (total_of m) o.trust)) known (accepted.trusted_signed far) in
      let is_needed : needed.trusted ≡ least_power (total_of n) o.trust.numerator o.trust.denominator =
      cond-false (s.header.height == s.trusted_height + 1) 0 (option_map_or (λ m. least_power (total_of m) o.trust.numerator o.trust.denominator) s.next 0) is
      ∙ ap (λ (x : Option (List Member)). option_map_or (λ (m : List Member). least_power (total_of m) o.trust.numerator o.trust.denominator) x 0) known in
      let some = some_denominator (signed_power n s.own s.header) (total_of n) o.trust.numerator o.trust.denominator signed in
      let sums = ap (λ (x : Option (List Member)). sum_by (λ v. v.trusted) (voters_of x s.header s.own)) known in
      omega (
        arith,
        is_needed,
        least_from (signed_power n s.own s.header) (total_of n) o.trust.numerator o.trust.denominator some signed,
        sums,
        trusted_power n s.own s.header next_valid valid,
      )

  all_pass : Passes needed all
  all_pass = record { own = own_enough; trusted = trusted_by (s.header.height == s.trusted_height + 1) refl }

  -- and so is the step with voters who pass
  module _ (voters : List Voter) (part : IsPart voters all) (passes : Passes needed voters) where
    abbrev left : Header
    left = only_votes voters s.header

    left_signed : ¬ IsAdjacent s → Exceeds (signed_power n s.own left) (total_of n) o.trust
    left_signed far =
        let signed : Exceeds (signed_power n s.own s.header) (total_of n) o.trust =
        subst (λ (x : Option (List Member)). IfSome x (λ m. Exceeds (signed_power m s.own s.header) (total_of m) o.trust)) known (accepted.trusted_signed far) in
        let some = some_denominator (signed_power n s.own s.header) (total_of n) o.trust.numerator o.trust.denominator signed in
        let is_needed : needed.trusted ≡ least_power (total_of n) o.trust.numerator o.trust.denominator =
        cond-false (s.header.height == s.trusted_height + 1) 0 (option_map_or (λ m. least_power (total_of m) o.trust.numerator o.trust.denominator) s.next 0) (ne_eqb s.header.height (s.trusted_height + 1) far)
        ∙ ap (λ (x : Option (List Member)). option_map_or (λ (m : List Member). least_power (total_of m) o.trust.numerator o.trust.denominator) x 0) known in
        let part' = subst (λ (x : Option (List Member)). IsPart voters (voters_of x s.header s.own)) known part in
        exceeds_from (signed_power n s.own left) (total_of n) o.trust.numerator o.trust.denominator some
        (omega (arith, is_needed, passes.trusted, left_trusted n s.header s.own voters part' next_valid valid))

    pub left_accepted : Accepts o moment (record s { header = left })
    left_accepted = record {
      higher = accepted.higher;
      not_expired = accepted.not_expired;
      later = accepted.later;
      not_from_future = accepted.not_from_future;
      next_known = accepted.next_known;
      follows = accepted.follows;
      trusted_signed = λ far. subst (λ (x : Option (List Member)). IfSome x (λ m. Exceeds (signed_power m s.own left) (total_of m) o.trust)) (sym known) (left_signed far);
      own_signed = exceeds_from (signed_power s.own s.own left) (total_of s.own) 2 3 (omega arith) (omega (arith, passes.own, left_own s.next s.header s.own voters part valid));
    }

-- voters with whose votes alone the header is accepted pass
module _ (o : ClientOptions) (moment : ℕ) (s : Step) (voters : List Voter) (valid : IsValidatorSet s.own) (part : IsPart voters (voters_of s.next s.header s.own))
    (accepted : Accepts o moment (record s { header = only_votes voters s.header })) where
  abbrev alone : Header
  alone = only_votes voters s.header

  power_alone : (f : Voter → ℕ) → sum_by f (voters_of s.next alone s.own) ≡ sum_by f voters
  power_alone f =
      ap (λ (ws : List Voter). sum_by f ws) (voters_left s.next voters 0 s.own s.header.votes)
      ∙ part_exact f voters (voters_of s.next s.header s.own) part (voters_stand s.next 0 s.own s.header.votes)

  own_alone : own_needed s.own ≤ sum_by (λ v. v.own) voters
  own_alone =
      omega (
        arith,
        least_from (signed_power s.own s.own alone) (total_of s.own) 2 3 (omega arith) accepted.own_signed,
        own_power s.next s.own alone valid,
        power_alone (λ v. v.own),
      )

  trusted_alone : (next : Option (List Member)) → s.next ≡ next → IfSome next IsValidatorSet → (adjacent : Bool) → (s.header.height == s.trusted_height + 1) ≡ adjacent
      → trusted_needed o s.trusted_height s.next s.header ≤ sum_by (λ v. v.trusted) voters
  trusted_alone next known next_valid true is =
      let none = cond-true (s.header.height == s.trusted_height + 1) 0 (option_map_or (λ m. least_power (total_of m) o.trust.numerator o.trust.denominator) s.next 0) is in
      omega (arith, none)
  trusted_alone None known next_valid false is = absurd (false≢true (subst (λ (x : Option (List Member)). IsSome x) known accepted.next_known))
  trusted_alone (Some n) known next_valid false is =
      let signed : Exceeds (signed_power n s.own alone) (total_of n) o.trust =
      subst (λ (x : Option (List Member)). IfSome x (λ m. Exceeds (signed_power m s.own alone) (total_of m) o.trust)) known (accepted.trusted_signed (eqb-false s.header.height (s.trusted_height + 1) is)) in
      let is_needed : trusted_needed o s.trusted_height s.next s.header ≡ least_power (total_of n) o.trust.numerator o.trust.denominator =
      cond-false (s.header.height == s.trusted_height + 1) 0 (option_map_or (λ m. least_power (total_of m) o.trust.numerator o.trust.denominator) s.next 0) is
      ∙ ap (λ (x : Option (List Member)). option_map_or (λ (m : List Member). least_power (total_of m) o.trust.numerator o.trust.denominator) x 0) known in
      let some = some_denominator (signed_power n s.own alone) (total_of n) o.trust.numerator o.trust.denominator signed in
      let sums = ap (λ (x : Option (List Member)). sum_by (λ v. v.trusted) (voters_of x alone s.own)) known in
      omega (
        arith,
        is_needed,
        least_from (signed_power n s.own alone) (total_of n) o.trust.numerator o.trust.denominator some signed,
        sums,
        trusted_power n s.own alone next_valid valid,
        power_alone (λ v. v.trusted),
      )

pub needed_are_fewest_lem : NeededAreFewest
needed_are_fewest_lem o moment s voters valid next_valid part accepted =
    let needed = needed_of o s.trusted_height s.next s.header s.own in
    let all = voters_of s.next s.header s.own in
    let passes : Passes needed voters = record {
      own = own_alone o moment s voters valid part accepted;
      trusted = trusted_alone o moment s voters valid part accepted s.next refl next_valid (s.header.height == s.trusted_height + 1) refl;
    } in
    (sent_twice needed all voters part passes, λ decides. sent_least needed all voters decides part passes)

pub needed_is_accepted_lem : NeededIsAccepted
needed_is_accepted_lem o moment s valid next_valid accepted = by s.next refl
  where
    by : (next : Option (List Member)) → s.next ≡ next → Accepts o moment (record s { header = only_votes (needed_voters o s.trusted_height s.next s.header s.own) s.header })
    by None is = absurd (false≢true (subst (λ (x : Option (List Member)). IsSome x) is accepted.next_known))
    by (Some n) is =
        let n_valid : IsValidatorSet n = subst (λ (x : Option (List Member)). IfSome x IsValidatorSet) is next_valid in
        let needed = needed_of o s.trusted_height s.next s.header s.own in
        let all = voters_of s.next s.header s.own in
        left_accepted o moment s n is valid n_valid accepted (sent_votes needed all) (sent_part needed all)
        (sent_enough needed all (all_pass o moment s n is valid n_valid accepted))
