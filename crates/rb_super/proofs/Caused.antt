-- Turns that are each called for by a message of their own are as few as can be.
use Rattle.std.proofs.Common.{◌≡◌, ℕ, ◌+◌, ◌<◌, ◌≤◌, false, ltb, List, [], ◌∷◌, length, All, Any, arith}
use Rattle.std.specs.List.{filter}
use Rattle.std.proofs.lemmas.Bool.{le-ltb, lt-ltb}
use Rattle.std.proofs.lemmas.List.Elements.{All-head, All-tail, All-weaker}
use Rattle.rb_super.specs.Waiting.{Message, GoesInTime, IsPunctual}
use Rattle.rb_super.proofs.Lists.{Any-with_all, Any-weaker, Any-filter, length-filter_lt}

-- a message is ready and presses in a turn
abbrev pub Presses : ℕ → Message → Type 0
Presses turn m = (m.ready ≤ turn) × (m.presses ≤ turn)

-- each of these turns, from one on, has a message that presses in it and was not ready in the turn before it
abbrev pub AreCaused : List Message → ℕ → List ℕ → Type 0
AreCaused messages from [] = Unit {0}
AreCaused messages from (turn ∷ turns) =
    Any (λ m. (from ≤ m.ready) × Presses turn m) messages × AreCaused messages (turn + 1) turns

-- the turns of a choice that come after one
abbrev later_turns : ℕ → List ℕ → List ℕ
later_turns turn choice = filter (λ t. ltb turn t) choice

-- a message that became ready in this turn or later goes in time, if it presses at all
abbrev GoesSince : ℕ → ℕ → List ℕ → Message → Type 0
GoesSince turns from choice m = from ≤ m.ready → m.presses < turns → GoesInTime choice m

-- what became ready after a turn goes in one of the choice's later turns
goes_later : (turns from turn : ℕ) (messages : List Message) (choice : List ℕ) → from ≤ turn
    → All (GoesSince turns from choice) messages → All (GoesSince turns (turn + 1) (later_turns turn choice)) messages
goes_later turns from turn messages choice before ok =
    All-weaker (GoesSince turns from choice) (GoesSince turns (turn + 1) (later_turns turn choice))
    (λ m goes later soon. Any-filter (λ t. (m.ready ≤ t) × (t ≤ m.presses)) (λ t. ltb turn t)
    (λ t within. lt-ltb turn t (omega (arith, within.0, later))) choice (goes (omega (arith, later, before)) soon))
    messages ok

pub caused_fewest_from : (turns from : ℕ) (messages : List Message) (sends choice : List ℕ)
    → All (λ t. t < turns) sends → AreCaused messages from sends → All (GoesSince turns from choice) messages → length sends ≤ length choice
caused_fewest_from turns from messages [] choice inside caused ok = omega arith
caused_fewest_from turns from messages (t ∷ ts) choice inside (cause, causes) ok =
    let here = All-head (λ u. u < turns) t ts inside in
    let some = Any-with_all (λ m. (from ≤ m.ready) × Presses t m) (GoesSince turns from choice) messages cause ok in
    let m = some.0 in
    let why = some.1 in
    let goes : GoesInTime choice m = some.2 why.0 (omega (arith, why.1.1, here)) in
    let one = length-filter_lt (λ u. ltb t u) choice
    (Any-weaker (λ u. (m.ready ≤ u) × (u ≤ m.presses)) (λ u. ltb t u ≡ false) (λ u within. le-ltb t u (omega (arith, within.1, why.1.1))) choice goes) in
    let rest = caused_fewest_from turns (t + 1) messages ts (later_turns t choice) (All-tail (λ u. u < turns) t ts inside) causes
    (goes_later turns from t messages choice (omega (arith, why.0, why.1.0)) ok) in
    omega (arith, one, rest)

pub caused_fewest : (turns : ℕ) (messages : List Message) (sends choice : List ℕ)
    → All (λ t. t < turns) sends → AreCaused messages 0 sends → IsPunctual turns messages choice → length sends ≤ length choice
caused_fewest turns messages sends choice inside caused ok =
    caused_fewest_from turns 0 messages sends choice inside caused
    (All-weaker (λ m. m.presses < turns → GoesInTime choice m) (GoesSince turns 0 choice) (λ m goes _ soon. goes soon) messages ok)
