-- The answer for a window is the first in turn whose condition holds.
use Rattle.std.proofs.Common.{◌≡◌, ℕ, ◌+◌, ◌*◌, ◌≤◌, ◌==◌, nat_lt, Bool, true, false, cond, List, Option, Some, None, refl, sym, ap, subst, ◌∙◌, inl, inr, arith}
use Rattle.std.specs.Option.{IsSomeAnd}
use Rattle.std.specs.Str.{bytes_eq}
use Rattle.std.proofs.lemmas.Bool.{false≢true, cases_lt, le-ltb, eqb-true, eqb-false, eq-eqb, ne_eqb, ltb-false}
use Rattle.std.proofs.lemmas.Slice.Eq.{bytes_eq-Decides}
use Rattle.rb_base.specs.Fraction.{Ratio, Exceeds, two_thirds}
use Rattle.rb_base.specs.Options.{ClientOptions}
use Rattle.rb_base.specs.Window.{Span}
use Rattle.rb_valset.specs.Validator.{Member}
use Rattle.rb_valset.specs.ValidatorSet.{total_of}
use Rattle.rb_step.specs.Answer.{exceeds, check, test, invalid_or, votes_answer, answer_within}
use Rattle.rb_step.specs.Conditions.{Condition, Applies, turn_of}
use Rattle.rb_step.specs.Laws.{AnswerApplies}
use Rattle.rb_step.specs.Reasons.{number_of}
use Rattle.rb_step.specs.SignedPower.{signed_power}
use Rattle.rb_step.specs.StepRule.{Step}
use Rattle.rb_step.specs.declared.verdict.Verdict.{Verdict}
use Rattle.rb_step.specs.declared.verdict.Verdict.TheVariants.{Success, NotEnoughTrust, Invalid}
use Rattle.rb_step.specs.declared.verdict.Reason.{Reason}
use Rattle.rb_step.specs.declared.verdict.Reason.TheVariants.{HeightOrder, Expired, TimeNotLater, FromFuture, TrustedSetUnknown, WrongNextSet, NotTwoThirds}

not_more : (power total : ℕ) (r : Ratio) → exceeds power total r ≡ false → ¬ Exceeds power total r
not_more power total r is more = let few = ltb-false (total * r.numerator) (power * r.denominator) is in absurd (omega (arith, few, more))

is_not_more : (power total : ℕ) (r : Ratio) → (¬ Exceeds power total r) → exceeds power total r ≡ false
is_not_more power total r few = le-ltb (total * r.numerator) (power * r.denominator) (omega (arith, few))

-- the answer to heights and times, else the rest
abbrev answer_to : Bool → Bool → Bool → Bool → Verdict → Verdict
answer_to higher live later near rest =
    invalid_or (test higher HeightOrder (test live Expired (test later TimeNotLater (test near FromFuture None)))) rest

-- the answer to the votes
abbrev answer_of : Bool → Bool → Bool → Bool → ℕ → ℕ → Verdict
answer_of adjacent follows trusted own signed total =
    let rest = check own (Invalid NotTwoThirds) Success in
    cond adjacent (check follows (Invalid WrongNextSet) rest) (check trusted (NotEnoughTrust signed total) rest)

-- the condition of the answer to heights and times holds, and that of the rest where they pass
times_tell : (o : ClientOptions) (w : Span) (s : Step) (rest : Verdict) → Condition rest o w s → (higher live later near : Bool)
    → nat_lt s.trusted_height s.header.height ≡ higher → nat_lt w.until (s.trusted.time + o.period) ≡ live
    → nat_lt s.trusted.time s.header.record_of.time ≡ later → nat_lt s.header.record_of.time (w.from + o.drift) ≡ near
    → Condition (answer_to higher live later near rest) o w s
times_tell o w s rest h false live later near a b c d = ltb-false _ _ a
times_tell o w s rest h true false later near a b c d = ltb-false _ _ b
times_tell o w s rest h true true false near a b c d = ltb-false _ _ c
times_tell o w s rest h true true true false a b c d = ltb-false _ _ d
times_tell o w s rest h true true true true a b c d = h

-- and that of the answer to the votes
votes_tell : (o : ClientOptions) (w : Span) (s : Step) (n : List Member) → s.next ≡ Some n → (adjacent follows trusted own : Bool)
    → (s.header.height == s.trusted_height + 1) ≡ adjacent → bytes_eq s.header.set_hash s.trusted.next ≡ follows
    → exceeds (signed_power n s.own s.header) (total_of n) o.trust ≡ trusted
    → exceeds (signed_power s.own s.own s.header) (total_of s.own) two_thirds ≡ own
    → Condition (answer_of adjacent follows trusted own (signed_power n s.own s.header) (total_of n)) o w s
votes_tell o w s n known true false trusted own a b c d =
    (eqb-true _ _ a, λ same. false≢true (sym b ∙ (bytes_eq-Decides _ _).1 same))
votes_tell o w s n known true true trusted false a b c d = not_more _ _ two_thirds d
votes_tell o w s n known true true trusted true a b c d = tt
votes_tell o w s n known false follows false own a b c d =
    (eqb-false _ _ a, subst (λ (m : Option (List Member)). IsSomeAnd m (λ x. (signed_power n s.own s.header ≡ signed_power x s.own s.header) × (total_of n ≡ total_of x) × (¬ Exceeds (signed_power n s.own s.header) (total_of n) o.trust))) (sym known) (refl, refl, not_more _ _ o.trust c))
votes_tell o w s n known false follows true false a b c d = not_more _ _ two_thirds d
votes_tell o w s n known false follows true true a b c d = tt

-- the turn of the answer to heights and times is within that of a check that fails
late_expired : (higher later near : Bool) (rest : Verdict) → turn_of (answer_to higher false later near rest) ≤ 502
late_expired true later near rest = omega arith
late_expired false later near rest = omega arith

late_not_later : (higher live near : Bool) (rest : Verdict) → turn_of (answer_to higher live false near rest) ≤ 503
late_not_later true true near rest = omega arith
late_not_later true false near rest = omega arith
late_not_later false live near rest = omega arith

late_future : (higher live later : Bool) (rest : Verdict) → turn_of (answer_to higher live later false rest) ≤ 504
late_future true true true rest = omega arith
late_future true true false rest = omega arith
late_future true false later rest = omega arith
late_future false live later rest = omega arith

-- or within that of what the votes say
late_votes : (higher live later near : Bool) (rest : Verdict) (n : ℕ) → 504 ≤ n → turn_of rest ≤ n → turn_of (answer_to higher live later near rest) ≤ n
late_votes true true true true rest n more votes = votes
late_votes true true true false rest n more votes = omega arith
late_votes true true false near rest n more votes = omega arith
late_votes true false later near rest n more votes = omega arith
late_votes false live later near rest n more votes = omega arith

-- the turn of the answer to the votes is within that of a check that fails
late_set : (trusted own : Bool) (power total : ℕ) → turn_of (answer_of true false trusted own power total) ≤ 506
late_set trusted own power total = omega arith

late_trust : (follows own : Bool) (power total : ℕ) → turn_of (answer_of false follows false own power total) ≤ 506
late_trust follows own power total = omega arith

late_own : (adjacent follows trusted : Bool) (power total : ℕ) → turn_of (answer_of adjacent follows trusted false power total) ≤ 507
late_own true true trusted power total = omega arith
late_own true false trusted power total = omega arith
late_own false follows true power total = omega arith
late_own false follows false power total = omega arith

few : (r : Reason) → number_of r ≤ 507
few HeightOrder = omega arith
few Expired = omega arith
few TimeNotLater = omega arith
few FromFuture = omega arith
few TrustedSetUnknown = omega arith
few WrongNextSet = omega arith
few NotTwoThirds = omega arith

most : (answer : Verdict) → turn_of answer ≤ 508
most Success = omega arith
most (NotEnoughTrust signed total) = omega arith
most (Invalid reason) = omega (arith, few reason)

differ : (a b : List ℕ) (c : Bool) → (a ≡ b → ⊥) → bytes_eq a b ≡ c → c ≡ false
differ a b true ne e = absurd (ne ((bytes_eq-Decides a b).0 e))
differ a b false ne e = refl

module _ (o : ClientOptions) (w : Span) (s : Step) where
  abbrev higher : Bool
  higher = nat_lt s.trusted_height s.header.height

  abbrev live : Bool
  live = nat_lt w.until (s.trusted.time + o.period)

  abbrev later : Bool
  later = nat_lt s.trusted.time s.header.record_of.time

  abbrev near : Bool
  near = nat_lt s.header.record_of.time (w.from + o.drift)

  abbrev adjacent : Bool
  adjacent = s.header.height == s.trusted_height + 1

  abbrev follows : Bool
  follows = bytes_eq s.header.set_hash s.trusted.next

  abbrev trusted : List Member → Bool
  trusted n = exceeds (signed_power n s.own s.header) (total_of n) o.trust

  abbrev own : Bool
  own = exceeds (signed_power s.own s.own s.header) (total_of s.own) two_thirds

  -- the condition of the answer holds
  told : Condition (answer_within o w s) o w s
  told = times_tell o w s (votes_answer o s s.next) (by_next s.next refl) higher live later near refl refl refl refl
    where
      by_next : (next : Option (List Member)) → s.next ≡ next → Condition (votes_answer o s next) o w s
      by_next None is = is
      by_next (Some n) is = votes_tell o w s n is adjacent follows (trusted n) own refl refl refl refl

  past_times : (n : ℕ) → 504 ≤ n → turn_of (votes_answer o s s.next) ≤ n → turn_of (answer_within o w s) ≤ n
  past_times n more votes = late_votes higher live later near (votes_answer o s s.next) n more votes

  -- no answer comes after one whose condition holds
  no_later : (answer : Verdict) → Condition answer o w s → turn_of (answer_within o w s) ≤ turn_of answer
  no_later Success h = most (answer_within o w s)
  no_later (Invalid HeightOrder) h =
      let is : higher ≡ false = le-ltb _ _ h in
      rw is (omega arith)
  no_later (Invalid Expired) h =
      let is : live ≡ false = le-ltb _ _ h in
      rw is (late_expired higher later near (votes_answer o s s.next))
  no_later (Invalid TimeNotLater) h =
      let is : later ≡ false = le-ltb _ _ h in
      rw is (late_not_later higher live near (votes_answer o s s.next))
  no_later (Invalid FromFuture) h =
      let is : near ≡ false = le-ltb _ _ h in
      rw is (late_future higher live later (votes_answer o s s.next))
  no_later (Invalid TrustedSetUnknown) h = past_times 505 (omega arith) (rw h (omega arith))
  no_later (Invalid WrongNextSet) h = past_times 506 (omega arith) (by_next s.next)
    where
      by_next : (next : Option (List Member)) → turn_of (votes_answer o s next) ≤ 506
      by_next None = omega arith
      by_next (Some n) =
          let here : adjacent ≡ true = eq-eqb _ _ h.0 in
          let other : follows ≡ false = differ s.header.set_hash s.trusted.next follows h.1 refl in
          rw (here, other) (late_set (trusted n) own (signed_power n s.own s.header) (total_of n))
  no_later (NotEnoughTrust signed total) h = past_times 506 (omega arith) (by_next s.next h.1)
    where
      by_next : (next : Option (List Member)) → IsSomeAnd next (λ n. (signed ≡ signed_power n s.own s.header) × (total ≡ total_of n) × (¬ Exceeds signed total o.trust)) → turn_of (votes_answer o s next) ≤ 506
      by_next None k = omega arith
      by_next (Some n) k =
          let here : adjacent ≡ false = ne_eqb _ _ h.0 in
          let few : trusted n ≡ false = is_not_more (signed_power n s.own s.header) (total_of n) o.trust (rw (k.0, k.1) at k.2) in
          rw (here, few) (late_trust follows own (signed_power n s.own s.header) (total_of n))
  no_later (Invalid NotTwoThirds) h = past_times 507 (omega arith) (by_next s.next)
    where
      by_next : (next : Option (List Member)) → turn_of (votes_answer o s next) ≤ 507
      by_next None = omega arith
      by_next (Some n) =
          let few : own ≡ false = is_not_more (signed_power s.own s.own s.header) (total_of s.own) two_thirds h in
          rw few (late_own adjacent follows (trusted n) (signed_power n s.own s.header) (total_of n))

same_number : (r q : Reason) → number_of r ≡ number_of q → r ≡ q
same_number HeightOrder HeightOrder e = refl
same_number Expired Expired e = refl
same_number TimeNotLater TimeNotLater e = refl
same_number FromFuture FromFuture e = refl
same_number TrustedSetUnknown TrustedSetUnknown e = refl
same_number WrongNextSet WrongNextSet e = refl
same_number NotTwoThirds NotTwoThirds e = refl
same_number r q e = absurd (omega (arith, e))

-- two answers in one turn whose conditions hold are one
same_turn : (o : ClientOptions) (w : Span) (s : Step) (a b : Verdict) → turn_of a ≡ turn_of b → Condition a o w s → Condition b o w s → a ≡ b
same_turn o w s Success Success e x y = refl
same_turn o w s Success (NotEnoughTrust q u) e x y = absurd (omega (arith, e))
same_turn o w s Success (Invalid r) e x y = absurd (omega (arith, e, few r))
same_turn o w s (NotEnoughTrust p t) Success e x y = absurd (omega (arith, e))
same_turn o w s (NotEnoughTrust p t) (NotEnoughTrust q u) e x y = by_next s.next x.1 y.1
  where
    by_next : (next : Option (List Member)) → IsSomeAnd next (λ n. (p ≡ signed_power n s.own s.header) × (t ≡ total_of n) × (¬ Exceeds p t o.trust)) → IsSomeAnd next (λ n. (q ≡ signed_power n s.own s.header) × (u ≡ total_of n) × (¬ Exceeds q u o.trust)) → NotEnoughTrust p t ≡ NotEnoughTrust q u
    by_next None k l = absurd k
    by_next (Some n) k l = ap (λ (z : ℕ). NotEnoughTrust z t) (k.0 ∙ sym l.0) ∙ ap (λ (z : ℕ). NotEnoughTrust q z) (k.1 ∙ sym l.1)
same_turn o w s (NotEnoughTrust p t) (Invalid r) e x y =
    absurd (x.0 (subst (λ (z : Reason). Condition (Invalid z) o w s) (same_number r WrongNextSet (sym e)) y).0)
same_turn o w s (Invalid r) Success e x y = absurd (omega (arith, e, few r))
same_turn o w s (Invalid r) (NotEnoughTrust q u) e x y =
    absurd (y.0 (subst (λ (z : Reason). Condition (Invalid z) o w s) (same_number r WrongNextSet e) x).0)
same_turn o w s (Invalid r) (Invalid q) e x y = ap (λ (z : Reason). Invalid z) (same_number r q e)

applies : (o : ClientOptions) (w : Span) (s : Step) → Applies (answer_within o w s) o w s
applies o w s = (told o w s, λ earlier less h. (let late = no_later o w s earlier h in absurd (omega (arith, late, less))))

pub answer_applies_lem : AnswerApplies
answer_applies_lem o w s answer = (
  λ e. subst (λ (v : Verdict). Applies v o w s) e (applies o w s),
  λ h. (let late = no_later o w s answer h.0 in
      elim (cases_lt (turn_of (answer_within o w s)) (turn_of answer)) [
        | inl less ↦ absurd (h.1 (answer_within o w s) less (told o w s))
        | inr more ↦ same_turn o w s (answer_within o w s) answer (omega (arith, late, more)) (told o w s) h.0
      ]),
)
