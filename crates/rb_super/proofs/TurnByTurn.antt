-- What is seen turn by turn makes sending turns.
use Rattle.std.proofs.Common.{◌≡◌, ℕ, ◌+◌, ◌<◌, ◌≤◌, Bool, true, false, List, length, map, get_or, All, Any, Option, Some, None, refl, sym, ap, ◌∙◌, subst, arith, zero-add}
use Rattle.std.specs.List.{filter, flat_map, range_with_len, slice_get}
use Rattle.std.specs.List.Sorted.{IsStrictlyIncreasing}
use Rattle.std.specs.Option.{option_map_or}
use Rattle.std.proofs.lemmas.Bool.{and_from, false≢true}
use Rattle.std.proofs.lemmas.List.Elements.{All-weaker, All-map, All-filter, filter_passes}
use Rattle.std.proofs.lemmas.List.FromFn.{length-range_with_len, get_or-range_with_len}
use Rattle.std.proofs.lemmas.List.Kept.{IsStrictlyIncreasing-filter}
use Rattle.rb_super.specs.Seen.{Seen, is_pressed, IsGoneAfter, AreSendingTurns}
use Rattle.rb_super.proofs.Members.{In, in_map, in_flat_map, any_from, from_get}

tested : {A : Type 0} (f : A → Bool) (o : Option A) → option_map_or f o false ≡ true → (x : A) × (o ≡ Some x) × (f x ≡ true)
tested f None e = absurd (false≢true e)
tested f (Some x) e = (x, refl, e)

-- ---- the numbers of turns

range_within : (n : ℕ) → All (λ t. t < n) (range_with_len 0 n)
range_within n k d inside =
    let fits : k < n = omega (arith, inside, length-range_with_len 0 n) in
    subst (λ t. t < n) (sym (get_or-range_with_len 0 n k d fits ∙ zero-add k)) fits

range_rises : (n : ℕ) → IsStrictlyIncreasing (range_with_len 0 n)
range_rises n k inside =
    let long = length-range_with_len 0 n in
    let one : k < n = omega (arith, inside, long) in
    let two : k + 1 < n = omega (arith, inside, long) in
    let here = get_or-range_with_len 0 n k 0 one in
    let next = get_or-range_with_len 0 n (k + 1) 0 two in
    omega (arith, here, next)

-- ---- turns in which a test passes

abbrev in_turn : {K : Type 0} → List K → (K → Bool) → ℕ → Bool
in_turn ks test turn = option_map_or test (slice_get ks turn) false

abbrev seen_of : {K I : Type 0} → (I → K → Bool) → (I → K → Bool) → List K → I → Seen
seen_of ready pressing ks i = record { ready = in_turn ks (ready i); pressing = in_turn ks (pressing i) }

-- in a turn that sends a message is ready and presses
abbrev pub HasPressed : {K I : Type 0} → (I → K → Bool) → (I → K → Bool) → (K → List I) → K → Type 0
HasPressed {K} {I} ready pressing ids k = (i : I) × In (ids k) i × (ready i k ≡ true) × (pressing i k ≡ true)

module _ {K I : Type 0} (ready pressing : I → K → Bool) (sends : K → Bool) (ids : K → List I) (ks : List K)
    (has_pressed : (turn : ℕ) (k : K) → slice_get ks turn ≡ Some k → sends k ≡ true → HasPressed ready pressing ids k)
    (gone : (i : I) (before turn after : ℕ) (j k l : K) → before ≤ turn → turn < after
    → slice_get ks before ≡ Some j → slice_get ks turn ≡ Some k → slice_get ks after ≡ Some l
    → ready i j ≡ true → sends k ≡ true → ready i l ≡ true → ⊥)
  where
    pressed_in : (turn : ℕ) → in_turn ks sends turn ≡ true → Any (λ s. is_pressed turn s ≡ true) (map (seen_of ready pressing ks) (flat_map ids ks))
    pressed_in turn sent =
        let k = tested sends (slice_get ks turn) sent in
        let p = has_pressed turn k.0 k.1 k.2 in
        any_from (λ s. is_pressed turn s ≡ true) (map (seen_of ready pressing ks) (flat_map ids ks)) (seen_of ready pressing ks p.0)
        (in_map (seen_of ready pressing ks) (flat_map ids ks) p.0 (in_flat_map ids ks k.0 p.0 (from_get ks turn k.0 k.1) p.1))
        (and_from (in_turn ks (ready p.0) turn) (in_turn ks (pressing p.0) turn)
        (ap (λ o. option_map_or (ready p.0) o false) k.1 ∙ p.2) (ap (λ o. option_map_or (pressing p.0) o false) k.1 ∙ p.3))

    gone_after : (turn : ℕ) → in_turn ks sends turn ≡ true → (i : I) → IsGoneAfter turn (seen_of ready pressing ks i)
    gone_after turn sent i before after no_later later was now =
        let j = tested (ready i) (slice_get ks before) was in
        let k = tested sends (slice_get ks turn) sent in
        let l = tested (ready i) (slice_get ks after) now in
        gone i before turn after j.0 k.0 l.0 no_later later j.1 k.1 l.1 j.2 k.2 l.2

    pub sending_turns : AreSendingTurns (length ks) (map (seen_of ready pressing ks) (flat_map ids ks)) (filter (in_turn ks sends) (range_with_len 0 (length ks)))
    sending_turns =
        let turns = range_with_len 0 (length ks) in
        let seen = map (seen_of ready pressing ks) (flat_map ids ks) in
        let passes = filter_passes (in_turn ks sends) turns in
        record {
          rising = IsStrictlyIncreasing-filter (in_turn ks sends) turns (range_rises (length ks));
          within = All-filter (in_turn ks sends) (λ t. t < length ks) turns (range_within (length ks));
          pressed = All-weaker (λ t. in_turn ks sends t ≡ true) (λ t. Any (λ s. is_pressed t s ≡ true) seen) pressed_in (filter (in_turn ks sends) turns) passes;
          gone = All-weaker (λ t. in_turn ks sends t ≡ true) (λ t. All (IsGoneAfter t) seen)
              (λ t sent. All-map (IsGoneAfter t) (seen_of ready pressing ks) (flat_map ids ks) (λ n d inside. gone_after t sent (get_or (flat_map ids ks) n d)))
              (filter (in_turn ks sends) turns) passes;
        }
