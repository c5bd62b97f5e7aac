-- A follower as contracts see it, and what a document does to it.
use Rattle.std.specs.Prelude.{◌≡◌, ℕ, ◌+◌, ◌*◌, nat_le, nat_lt, Bool, true, false, List, [], length, codes, Option, Some, None, Result, Ok, Err, if◌then◌else◌}
use Rattle.std.specs.declared.alloc.Global.{Global}
use Rattle.rb_core_model.specs.Forgetting.{floors_of, rest_at_floors}
use Rattle.rb_core_model.specs.Limits.{max_events}
use Rattle.rb_core_model.specs.Over.{firsts_of}
use Rattle.rb_core_model.specs.Standing.{Standing, opening_standing}
use Rattle.rb_script_types.specs.Config.{Config}
use Rattle.rb_script_types.specs.Limits.{max_entries, max_turns as most_of_old}
use Rattle.rb_script_types.specs.Script.{Turn, entry_count}
use Rattle.rb_script_types.specs.declared.version.Version.{Version}
use Rattle.rb_script_types.specs.declared.version.Version.TheVariants.{One, Two, Three, Four}
use Rattle.rb_script_toml.specs.Faults.{Fault, ◌>>=◌, check}
use Rattle.rb_script_toml.specs.declared.fault.FaultName.TheVariants.{NotToml, TooManyObjects, TooManyEvents}
use Rattle.rb_script_read.specs.Turns.{Reading, opening}
use Rattle.rb_script_read.specs.NextTurns.{turn_of_document}
use Rattle.rb_super_turn.specs.AsEvents.{turn_as_events}
use Rattle.rb_super_turn.specs.Report.{TurnReport}
use Rattle.rb_super_turn.specs.Script.{IsTurn}
use Rattle.rb_super_turn.specs.Turns.{IsTurnReport, after_turn}
use Rattle.rb_follow.specs.Setups.{setup_of}
use Rattle.rb_follow.specs.Documents.{Document, document, cut}
use Rattle.rb_follow.specs.Numbers.{number_text, numbered}
use Rattle.rb_follow.specs.Tidying.{forgets, raised, first_spoken, check_spoken}

-- what it is set up with, how many turns were taken, what reading them left to the next, how many events its log can have, how things
-- stand, and up to which height of each chain was forgotten
pub record Following : Type 0 where
  pub config : Config
  pub turns : ℕ
  pub reading : Reading
  pub events : ℕ
  pub standing : Standing
  pub forgotten : List ℕ

-- before the first turn
abbrev pub begun_with : Config → Following
begun_with c = record { config = c; turns = 0; reading = opening; events = 0; standing = opening_standing c; forgotten = [] }

-- the follower that a setup begins, or the setup's first fault
unfoldable pub beginning : List ℕ → Result Following Fault
beginning setup = do
  c ← setup_of setup
  Ok (begun_with c)

-- ---- a document

-- how many turns there may be (own choice): 500, in version 3 10,000, and from version 4 on more than any run has, 2^63 - 1
abbrev pub max_turns : Version → ℕ
max_turns One = most_of_old
max_turns Two = most_of_old
max_turns Three = 10000
max_turns Four = 9223372036854775807

-- the most events that a turn gives: its window, its entries, the scans of both parts of each path, and a plan for each client and the taking
-- of its batch
abbrev pub most_events : Config → Turn Global → ℕ
most_events c t = 1 + entry_count t + 2 * length c.paths + 2 * length c.clients

-- the turn that a document holds, after so many turns, where the log can have so many events, and what reading it leaves to the next,
-- where there is room for it, and no event speaks of what was forgotten
unfoldable pub turn_after : Config → ℕ → ℕ → List ℕ → List ℕ → Reading → List ℕ → Result (Turn Global × Reading) Fault
turn_after c turns events forgotten firsts reading bytes = do
  _ ← check (nat_lt turns (max_turns c.version)) TooManyObjects (codes "-")
  x ← turn_of_document c reading bytes
  _ ← check (nat_le (events + most_events c x.0) max_events) TooManyEvents (codes "-")
  _ ← check_spoken (first_spoken c forgotten firsts x.0)
  Ok x

-- the same of a follower
abbrev pub read_turn : Following → List ℕ → Result (Turn Global × Reading) Fault
read_turn f bytes = turn_after f.config f.turns f.events f.forgotten (firsts_of f.standing) f.reading bytes

-- why a document is answered by no report: its fault, with its number, where it has one; or it begins with another number than the one that is due
pub data Refusal : Type 0 where
  faulty : Option ℕ → Fault → Refusal
  out_of_order : ℕ → Refusal

abbrev pub number_if : Bool → ℕ → Option ℕ
number_if false n = None
number_if true n = Some n

abbrev pub refusing : Option ℕ → Result (Turn Global × Reading) Fault → Result (Turn Global × Reading) Refusal
refusing n (Ok x) = Ok x
refusing n (Err e) = Err (faulty n e)

abbrev pub turn_behind : Following → Option (Bool × List ℕ) → Result (Turn Global × Reading) Refusal
turn_behind f (Some x) = refusing (number_if x.0 (f.turns + 1)) (read_turn f x.1)
turn_behind f None = Err (out_of_order (f.turns + 1))

-- the turn that a document holds, behind the number that it may begin with: that of the next turn
abbrev pub next_turn : Following → List ℕ → Result (Turn Global × Reading) Refusal
next_turn f bytes = turn_behind f (numbered (number_text (f.turns + 1)) bytes)

-- the turn that a document of an input holds: the beginning of one is no TOML
abbrev pub turn_in : Following → Document → Result (Turn Global × Reading) Refusal
turn_in f (document d) = next_turn f d
turn_in f cut = Err (faulty None (record { name = NotToml; path = codes "-" }))

-- a turn that was read keeps what every turn of a script keeps
abbrev pub IsRight : Following → Result (Turn Global × Reading) Refusal → Type 0
IsRight f (Ok x) = IsTurn f.config (turn_as_events x.0)
IsRight f (Err e) = Unit {0}

-- what a document is answered by: the report of the turn that it holds, by its number from 1, or why it holds none
pub data Answer : Type 0 where
  planned : ℕ → TurnReport → Answer
  refused : Refusal → Answer

-- from version 4 on there is room for as many entries as at first, once entries were forgotten
abbrev pub room_again : Version → Reading → Reading
room_again One reading = reading
room_again Two reading = reading
room_again Three reading = reading
room_again Four reading = record reading { room = max_entries }

-- what lies below the floors is forgotten; the log begins anew
abbrev pub emptied : Following → Following
emptied f = record f {
  reading = room_again f.config.version f.reading;
  events = 0;
  standing = rest_at_floors f.standing;
  forgotten = raised f.forgotten (floors_of f.standing);
}

-- that is done where it is worth while
abbrev pub tidied : Following → Following
tidied f = if forgets f.config.version f.standing then emptied f else f

-- the follower after a turn that was reported so
abbrev pub after_report : Following → Turn Global × Reading → TurnReport → Following
after_report f x r = tidied (record f {
  turns = f.turns + 1;
  reading = x.1;
  events = f.events + most_events f.config x.0;
  standing = after_turn f.standing (turn_as_events x.0) r;
})

abbrev pub IsAnswerFor : Following → Result (Turn Global × Reading) Refusal → Answer → Following → Type 0
IsAnswerFor f (Ok x) (planned number r) g = (number ≡ f.turns + 1) × IsTurnReport f.standing (turn_as_events x.0) r × (g ≡ after_report f x r)
IsAnswerFor f (Ok x) (refused refusal) g = ⊥
IsAnswerFor f (Err e) (planned number r) g = ⊥
IsAnswerFor f (Err e) (refused refusal) g = (refusal ≡ e) × (g ≡ f)

-- a document's answer, and the follower then: a fault leaves it as it was
abbrev pub IsAnswer : Following → List ℕ → Answer → Following → Type 0
IsAnswer f bytes answer g = IsAnswerFor f (next_turn f bytes) answer g
