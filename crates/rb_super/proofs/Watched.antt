-- Sending turns in which a message was seen to press are caused by the messages that were seen.
use Rattle.std.proofs.Common.{◌≡◌, ℕ, suc, ◌+◌, ◌<◌, ◌≤◌, ◌⊎◌, Bool, true, List, [], ◌∷◌, map, length, get_or, slice_index, All, Any, Contains, inl, inr, sym, ◌∙◌, ap, subst, arith}
use Rattle.std.specs.List.{range_with_len}
use Rattle.std.specs.List.Sorted.{IsStrictlyIncreasing}
use Rattle.std.proofs.lemmas.Bool.{cases_lt, and_parts, false≢true}
use Rattle.std.proofs.lemmas.List.Sums.{passes_at_first, fails_before_first}
use Rattle.std.proofs.lemmas.List.FromFn.{length-range_with_len, get_or-range_with_len}
use Rattle.std.proofs.lemmas.List.Elements.{All-head, All-tail, All-map, All-weaker, All-contains_itself}
use Rattle.rb_super.specs.Waiting.{Message, GoesInTime, IsPunctual}
use Rattle.rb_super.specs.Seen.{Seen, is_pressed, first_turn, message_of, IsGoneAfter, AreSendingTurns, SendsWherePressed}
use Rattle.rb_super.proofs.Caused.{AreCaused, Presses, caused_fewest}
use Rattle.rb_super.proofs.Lists.{Any-both, Any-map, Any-weaker}

-- ---- the first turn that passes

module _ (p : ℕ → Bool) (turns : ℕ) where
  place_is : (k : ℕ) → k < turns → get_or (range_with_len 0 turns) k 0 ≡ k
  place_is k inside = get_or-range_with_len 0 turns k 0 inside ∙ zero_and k
    where
      zero_and : (n : ℕ) → 0 + n ≡ n
      zero_and n = omega arith

  pub first_turn-passes : first_turn p turns < turns → p (first_turn p turns) ≡ true
  first_turn-passes inside =
      ap p (sym (place_is (first_turn p turns) inside))
      ∙ passes_at_first p (range_with_len 0 turns) 0 (omega (arith, inside, length-range_with_len 0 turns))

  pub first_turn-le : (turn : ℕ) → turn < turns → p turn ≡ true → first_turn p turns ≤ turn
  first_turn-le turn inside passes = go (cases_lt turn (first_turn p turns))
    where
      go : (turn < first_turn p turns) ⊎ (first_turn p turns ≤ turn) → first_turn p turns ≤ turn
      go (inr h) = h
      go (inl before) =
          absurd (false≢true (sym (fails_before_first p (range_with_len 0 turns) turn 0 before) ∙ ap p (place_is turn inside) ∙ passes))

-- ---- rising turns

-- each turn is above the one before it, and the first is not below this one
abbrev IsRisingFrom : ℕ → List ℕ → Type 0
IsRisingFrom from [] = Unit {0}
IsRisingFrom from (t ∷ ts) = (from ≤ t) × IsRisingFrom (t + 1) ts

rising_from : (from : ℕ) (sends : List ℕ) → IsStrictlyIncreasing sends → (0 < length sends → from ≤ slice_index sends 0) → IsRisingFrom from sends
rising_from from [] rising low = tt
rising_from from (t ∷ ts) rising low = (low (omega arith), rising_from (t + 1) ts tail head)
  where
    tail : IsStrictlyIncreasing ts
    tail k inside =
        let e : suc k + 1 ≡ suc (k + 1) = omega arith in
        subst (λ j. slice_index (t ∷ ts) (suc k) < slice_index (t ∷ ts) j) e (rising (suc k) (omega (arith, inside)))

    head : 0 < length ts → t + 1 ≤ slice_index ts 0
    head some = omega (arith, rising 0 (omega (arith, some)))

-- ---- causes

-- what was ready before this turn is not ready from it on
abbrev IsGoneBy : ℕ → Seen → Type 0
IsGoneBy from s = (before after : ℕ) → before < from → from ≤ after → s.ready before ≡ true → ¬ (s.ready after ≡ true)

module _ (turns : ℕ) (seen : List Seen) where
  -- a message that is seen to press in a turn, and was not ready before this one
  cause : (from turn : ℕ) (s : Seen) → from ≤ turn → turn < turns → is_pressed turn s ≡ true → IsGoneBy from s
      → (from ≤ (message_of turns s).ready) × Presses turn (message_of turns s)
  cause from turn s before inside pressed gone =
      (not_before (cases_lt (first_turn s.ready turns) from), (ready, first_turn-le (λ t. is_pressed t s) turns turn inside pressed))
    where
      is_ready_now : s.ready turn ≡ true
      is_ready_now = (and_parts (s.ready turn) (s.pressing turn) pressed).0

      ready : first_turn s.ready turns ≤ turn
      ready = first_turn-le s.ready turns turn inside is_ready_now

      not_before : (first_turn s.ready turns < from) ⊎ (from ≤ first_turn s.ready turns) → from ≤ first_turn s.ready turns
      not_before (inr h) = h
      not_before (inl early) =
          absurd (gone (first_turn s.ready turns) turn early before (first_turn-passes s.ready turns (omega (arith, ready, inside))) is_ready_now)

  caused_from : (from : ℕ) (sends : List ℕ) → IsRisingFrom from sends → All (λ t. t < turns) sends
      → All (λ t. Any (λ s. is_pressed t s ≡ true) seen) sends → All (λ t. All (IsGoneAfter t) seen) sends → All (IsGoneBy from) seen
      → AreCaused (map (message_of turns) seen) from sends
  caused_from from [] rising within pressed gone gone_by = tt
  caused_from from (t ∷ ts) rising within pressed gone gone_by =
      let inside = All-head (λ u. u < turns) t ts within in
      let because = Any-both (λ s. is_pressed t s ≡ true) (IsGoneBy from) seen (All-head (λ u. Any (λ s. is_pressed u s ≡ true) seen) t ts pressed) gone_by in
      let caused = λ (m : Message). (from ≤ m.ready) × Presses t m in (
        Any-map caused (message_of turns) seen
            (Any-weaker (λ s. (is_pressed t s ≡ true) × IsGoneBy from s) (λ s. caused (message_of turns s)) (λ s is. cause from t s rising.0 inside is.0 is.1) seen because),
        caused_from (t + 1) ts rising.1 (All-tail (λ u. u < turns) t ts within)
            (All-tail (λ u. Any (λ s. is_pressed u s ≡ true) seen) t ts pressed) (All-tail (λ u. All (IsGoneAfter u) seen) t ts gone)
            (All-weaker (IsGoneAfter t) (IsGoneBy (t + 1)) (λ s g before after low high. g before after (omega (arith, low)) (omega (arith, high))) seen
            (All-head (λ u. All (IsGoneAfter u) seen) t ts gone)),
      )

  pub seen_fewest : (sends choice : List ℕ) → AreSendingTurns turns seen sends → IsPunctual turns (map (message_of turns) seen) choice → length sends ≤ length choice
  seen_fewest sends choice is ok =
      caused_fewest turns (map (message_of turns) seen) sends choice is.within
      (caused_from 0 sends (rising_from 0 sends is.rising (λ _. omega arith)) is.within is.pressed is.gone
      (λ k d inside before after low. absurd (omega (arith, low))))
      ok

  pub seen_punctual : (sends : List ℕ) → SendsWherePressed turns seen sends → IsPunctual turns (map (message_of turns) seen) sends
  seen_punctual sends where_pressed =
      All-map (λ m. m.presses < turns → GoesInTime sends m) (message_of turns) seen
      (All-weaker (Contains seen) (λ s. (message_of turns s).presses < turns → GoesInTime sends (message_of turns s)) goes seen (All-contains_itself seen))
    where
      goes : (s : Seen) → Contains seen s → (message_of turns s).presses < turns → GoesInTime sends (message_of turns s)
      goes s at soon =
          let turn = (message_of turns s).presses in
          let pressed : is_pressed turn s ≡ true = first_turn-passes (λ t. is_pressed t s) turns soon in
          let sent = where_pressed turn soon (at.0, s, at.1, at.2, pressed) in
          let ready = first_turn-le s.ready turns turn soon (and_parts (s.ready turn) (s.pressing turn) pressed).0 in
          (sent.0, turn, sent.1, sent.2, (ready, omega arith))
