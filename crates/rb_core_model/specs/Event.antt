-- What happens to a relayer, one event after another.
use Rattle.std.specs.Prelude.{ℕ, ◌≤◌, List, Option}
use Rattle.rb_base.specs.Window.{Span}
use Rattle.rb_book.specs.Header.{Record, Header}
use Rattle.rb_script_types.specs.declared.block.Block.{Block}
use Rattle.rb_script_types.specs.declared.goal.Goal.{Goal}
use Rattle.rb_valset.specs.Validator.{Member}
use Rattle.rb_valset.specs.ValidatorSet.{IsValidatorSet}
use Rattle.rb_plan_client.specs.Draft.{Draft, IsDraft}
use Rattle.rb_core_model.specs.Scan.{Scan}

-- chains, clients and paths are named by their places
pub data Event : Type 0 where
  Window : Span → Event
  -- a window of the clients on a host
  HostWindow : ℕ → Span → Event
  Asked : ℕ → Goal → Event
  -- what was seen of chains
  SetSeen : ℕ → List Member → Event
  HeaderSeen : ℕ → Header → Event
  StoredSeen : ℕ → ℕ → Record → Event
  -- what was seen of paths, packets by their sequences: sent in a block, whose time may be told, with a timeout height and a timeout time,
  -- received in a block, its acknowledgement written in a block, cleared; and the path closed
  Sent : ℕ → ℕ → Block → Option ℕ → Option ℕ → Event
  Received : ℕ → ℕ → ℕ → Event
  AckWritten : ℕ → ℕ → Block → Event
  Cleared : ℕ → ℕ → Event
  Closed : ℕ → Event
  -- what the relayer itself made out
  Scanned : ℕ → Scan → Event
  Planned : Draft → Event
  -- so many transactions of a client's batch, by its number, were taken
  Settled : ℕ → ℕ → ℕ → Event

-- what every event keeps: a window doesn't end before it begins, a set is a validator set, and a draft is right for its job
abbrev pub IsEvent : Event → Type 0
IsEvent (Window window) = window.from ≤ window.until
IsEvent (HostWindow host window) = window.from ≤ window.until
IsEvent (SetSeen chain set) = IsValidatorSet set
IsEvent (Planned d) = IsDraft d
IsEvent _ = Unit {0}
