-- The tables of turns.
use Rattle.std.specs.Prelude.{ℕ, ◌+◌, ◌-◌, Bool, false, List, [], ◌∷◌, codes, Result, Ok, nat_le}
use Rattle.std.specs.declared.alloc.Global.{Global}
use Rattle.toml.specs.Data.{Data, Items, no_items}
use Rattle.toml.specs.View.{items_view}
use Rattle.rb_base.specs.Window.{Span}
use Rattle.rb_script_types.specs.Config.{Config}
use Rattle.rb_script_types.specs.declared.version.Version.{Version}
use Rattle.rb_script_types.specs.declared.version.Version.TheVariants.{One, Two, Three, Four}
use Rattle.rb_script_types.specs.Limits.{max_entries}
use Rattle.rb_script_types.specs.Script.{Turn}
use Rattle.rb_script_toml.specs.Faults.{Fault, ◌>>=◌, check}
use Rattle.rb_script_toml.specs.KeyPaths.{child}
use Rattle.rb_script_toml.specs.Fields.{Section, items, items_count, only, needs, optional, or_default, flag, time, elements, in_sequence, next_in_sequence}
use Rattle.rb_script_toml.specs.declared.fault.FaultName.TheVariants.{TooManyEvents, BadWindow}
use Rattle.rb_script_read.specs.declared.turn.Reading.{Reading as CodeReading}
use Rattle.rb_script_read.specs.declared.turn.TurnHead.{TurnHead as CodeTurnHead}
use Rattle.rb_script_read.specs.Names.{Names, no_names, names_of}
use Rattle.rb_script_config.specs.Clients.{client_ids}
use Rattle.rb_script_config.specs.Goals.{asked, settlement}
use Rattle.rb_script_config.specs.HostWindows.{host_window}
use Rattle.rb_script_read.specs.Events.{event}

-- from version 3 on a turn can say that all is taken, from version 4 on hosts can have windows of their own
abbrev pub turn_keys : Version → List (List ℕ)
turn_keys One = codes "from" ∷ codes "until" ∷ codes "goal" ∷ codes "event" ∷ codes "settle" ∷ []
turn_keys Two = codes "from" ∷ codes "until" ∷ codes "goal" ∷ codes "event" ∷ codes "settle" ∷ []
turn_keys Three = codes "from" ∷ codes "until" ∷ codes "goal" ∷ codes "event" ∷ codes "settle" ∷ codes "taken" ∷ []
turn_keys Four =
    codes "from" ∷ codes "until" ∷ codes "window" ∷ codes "goal" ∷ codes "event" ∷ codes "settle" ∷ codes "taken" ∷ []

-- whether every batch that is open after the turn's settlements is taken whole
abbrev pub is_taken : Version → Section → Result Bool Fault
is_taken One s = Ok false
is_taken Two s = Ok false
is_taken Three s = or_default false flag (optional (codes "taken") s)
is_taken Four s = or_default false flag (optional (codes "taken") s)

-- the windows of hosts
abbrev pub windows_in : Version → Section → Result Items Fault
windows_in One s = Ok no_items
windows_in Two s = Ok no_items
windows_in Three s = Ok no_items
windows_in Four s = or_default no_items items (optional (codes "window") s)

-- what a turn's own keys hold, and room for so many windows of hosts, goals, events and settlements after it
pub record TurnHead : Type 0 where
  pub window : Span
  pub windows : Items
  pub goals : Items
  pub events : Items
  pub settlements : Items
  pub taken : Bool
  pub room : ℕ

abbrev pub head_view : CodeTurnHead → TurnHead
head_view f = record {
  window = f.window;
  windows = items_view f.windows.now;
  goals = items_view f.goals.now;
  events = items_view f.events.now;
  settlements = items_view f.settlements.now;
  taken = f.taken;
  room = f.room;
}

-- the windows of hosts, goals, events and settlements of a turn
abbrev pub entries : Items → Items → Items → Items → ℕ
entries windows goals events settlements = items_count windows + items_count goals + items_count events + items_count settlements

-- where there is room for so many of them
unfoldable pub frame : Version → ℕ → Section → Result TurnHead Fault
frame version room s = do
  _ ← only (turn_keys version) s
  from ← needs (codes "from") time s
  until ← needs (codes "until") time s
  windows ← windows_in version s
  goals ← or_default no_items items (optional (codes "goal") s)
  events ← or_default no_items items (optional (codes "event") s)
  settlements ← or_default no_items items (optional (codes "settle") s)
  whole ← is_taken version s
  _ ← check (nat_le (entries windows goals events settlements) room) TooManyEvents s.path
  _ ← check (nat_le from until) BadWindow s.path
  Ok (record {
    window = record { from = from; until = until };
    windows = windows;
    goals = goals;
    events = events;
    settlements = settlements;
    taken = whole;
    room = room - entries windows goals events settlements;
  })

-- what the turns before leave to the next: the names that they gave, and the room
pub record Reading : Type 0 where
  pub names : Names
  pub room : ℕ

abbrev pub reading_view : CodeReading → Reading
reading_view r = record { names = names_of r.names; room = r.room }

-- before the first turn no set has a name
abbrev pub opening : Reading
opening = record { names = no_names; room = max_entries }

unfoldable pub turn : Config → Reading → Section → Result (Turn Global × Reading) Fault
turn c reading s = do
  f ← frame c.version reading.room s
  windows ← elements (host_window c.chains) (child s.path (codes "window")) [] f.windows
  goals ← elements (asked (client_ids c.clients)) (child s.path (codes "goal")) [] f.goals
  events ← in_sequence (event c) (child s.path (codes "event")) reading.names [] f.events
  settlements ← elements (settlement (client_ids c.clients)) (child s.path (codes "settle")) [] f.settlements
  Ok (
    record { window = f.window; windows = windows; goals = goals; events = events.0; settlements = settlements; taken = f.taken },
    record { names = events.1; room = f.room },
  )

-- the turn of this number, after those before it
abbrev pub turn_at : Config → ℕ → Reading → Data → Result (Turn Global × Reading) Fault
turn_at c index reading d = next_in_sequence (turn c) (codes "turn") index reading d

-- all turns, in their order
abbrev pub turns_of : Config → Reading → Items → Result (List (Turn Global) × Reading) Fault
turns_of c reading ds = in_sequence (turn c) (codes "turn") reading [] ds
