-- A core: the fold of its log.
use Rattle.std.specs.Prelude.{◌≡◌, ℕ, ◌<◌, ◌≤◌, Bool, true, List, length, map, slice_get, All, Option, None, IsSomeAnd}
use Rattle.rb_book.specs.Shared.{Shared}
use Rattle.rb_script_types.specs.Config.{Config}
use Rattle.rb_script_types.specs.declared.refusal.Refusal.{Refusal}
use Rattle.rb_core_model.specs.Begun.{IsBegun}
use Rattle.rb_core_model.specs.Config.{IsSetUp}
use Rattle.rb_core_model.specs.Event.{Event, IsEvent, SetSeen, HeaderSeen, StoredSeen, Sent, Settled}
use Rattle.rb_core_state.specs.Room.{ClientWithRoom, PathWithRoom}
use Rattle.rb_core_model.specs.Judged.{Ready}
use Rattle.rb_core_model.specs.Log.{IsLog}
use Rattle.rb_core_model.specs.Machine.{State, state_of, refusal_of}
use Rattle.rb_core_model.specs.Snapshot.{Log}
use Rattle.rb_core_model.specs.Standing.{OpenBatch, tracked, batch_open}
use Rattle.rb_core.specs.declared.state.CoreState.{CoreState}

-- for how many more there is room: events in the log, stored heights of each client, packets of each path; and whether
-- each chain's book stands apart, so that it can be changed
pub record Room : Type 0 where
  pub log : ℕ
  pub apart : List Bool
  pub stored : List ℕ
  pub packets : List ℕ

abbrev pub room_of : {A : Type 0} → ℕ → CoreState A → Room
room_of log k = record {
  log = log;
  apart = map (λ (s : Shared). s.apart) k.books.items;
  stored = map (λ (h : ClientWithRoom). h.room) k.clients.items;
  packets = map (λ (h : PathWithRoom). h.room) k.paths.items;
}

-- how it is configured, what it began with and the events that it has taken in since, and the room that it has for more
pub record Core : Type 0 where
  pub config : Config
  pub log : Log
  pub room : Room

-- what is known after the log
abbrev pub state_in : Core → State
state_in core = state_of core.config core.log

-- why an event is refused
abbrev pub refusal_in : Core → Event → Option Refusal
refusal_in core event = refusal_of (state_in core) event

-- an event can be taken in without memory
abbrev pub HasOwnRoom : Room → State → Event → Type 0
HasOwnRoom room s (SetSeen chain set) = IsSomeAnd (slice_get room.apart chain) (λ apart. apart ≡ true)
HasOwnRoom room s (HeaderSeen chain header) = IsSomeAnd (slice_get room.apart chain) (λ apart. apart ≡ true)
HasOwnRoom room s (StoredSeen client height r) =
    IsSomeAnd (slice_get room.apart (tracked s.standing.clients client)) (λ apart. apart ≡ true) × IsSomeAnd (slice_get room.stored client) (λ more. 1 ≤ more)
HasOwnRoom room s (Sent path sequence block timeout_height timeout_time) = IsSomeAnd (slice_get room.packets path) (λ more. 0 < more)
HasOwnRoom room s (Settled client number done) =
    IsSomeAnd (batch_open s.standing client) (λ (b : OpenBatch). IsSomeAnd (slice_get room.stored client) (λ more. length b.updates ≤ more))
HasOwnRoom room s event = Unit {0}

-- the core, with the log that it has, has judged the event, and made room for it
pub record IsReady (core : Core) (ready : Ready) : Type 0 where
  pub front : ready.front ≡ length core.log.events
  pub accepted : refusal_in core ready.event ≡ None
  pub log_room : 0 < core.room.log
  pub own_room : HasOwnRoom core.room (state_in core) ready.event

-- the state is the fold of the log, which begins as logs may, and whose events are ones of a relayer that is set up, each accepted
-- in its turn
pub record IsFold (config : Config) (log : Log) (s : State) : Type 0 where
  pub state : s ≡ state_of config log
  pub set_up : IsSetUp config
  pub begun : IsBegun config log.start
  pub events : All IsEvent log.events
  pub accepted : IsLog config log
