-- Messages by what is seen of them turn by turn: what ties a relayer's turns to the rule.
use Rattle.std.specs.Prelude.{ℕ, ◌<◌, ◌≤◌, Bool, IsTrue, ◌&&◌, List, length, map, All, Any, Contains}
use Rattle.std.specs.List.{position_or_len, range_with_len}
use Rattle.std.specs.List.Sorted.{IsStrictlyIncreasing}
use Rattle.rb_super.specs.Waiting.{Message, IsPunctual}

-- in which turns one message is ready, and in which of them it presses
pub record Seen : Type 0 where
  pub ready : ℕ → Bool
  pub pressing : ℕ → Bool

abbrev pub is_pressed : ℕ → Seen → Bool
is_pressed turn s = s.ready turn && s.pressing turn

-- the first of so many turns that passes; their number where none does
abbrev pub first_turn : (ℕ → Bool) → ℕ → ℕ
first_turn test turns = position_or_len test (range_with_len 0 turns)

-- the message: what is sent before it presses never presses
abbrev pub message_of : ℕ → Seen → Message
message_of turns s = record { ready = first_turn s.ready turns; presses = first_turn (λ t. is_pressed t s) turns }

-- what was ready up to a turn is not ready after it
abbrev pub IsGoneAfter : ℕ → Seen → Type 0
IsGoneAfter turn s = (before after : ℕ) → before ≤ turn → turn < after → IsTrue (s.ready before) → ¬ IsTrue (s.ready after)

-- sending turns, rising, in each of which a message pressed, and after which what was ready is gone
pub record AreSendingTurns (turns : ℕ) (seen : List Seen) (sends : List ℕ) : Type 0 where
  pub rising : IsStrictlyIncreasing sends
  pub within : All (λ turn. turn < turns) sends
  pub pressed : All (λ turn. Any (λ s. IsTrue (is_pressed turn s)) seen) sends
  pub gone : All (λ turn. All (IsGoneAfter turn) seen) sends

-- every turn in which a message pressed is a sending turn
abbrev pub SendsWherePressed : ℕ → List Seen → List ℕ → Type 0
SendsWherePressed turns seen sends =
    (turn : ℕ) → turn < turns → Any (λ s. IsTrue (is_pressed turn s)) seen → Contains sends turn

-- turns in which a message pressed and after which what was ready is gone are as few as those of any choice that is punctual for
-- the messages that were seen; where every turn in which a message pressed is among them they are punctual themselves
pub record SeenIsFewest : Type 0 where
  pub fewest : (turns : ℕ) (seen : List Seen) (sends choice : List ℕ)
      → AreSendingTurns turns seen sends → IsPunctual turns (map (message_of turns) seen) choice → length sends ≤ length choice
  pub punctual : (turns : ℕ) (seen : List Seen) (sends : List ℕ)
      → SendsWherePressed turns seen sends → IsPunctual turns (map (message_of turns) seen) sends
