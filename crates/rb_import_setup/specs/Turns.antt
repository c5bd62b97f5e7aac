-- The tables of turns, which have no events.
use Rattle.std.specs.Prelude.{ℕ, List, [], ◌∷◌, codes, Result, Ok, nat_le}
use Rattle.toml.specs.Data.{Items, no_items}
use Rattle.toml.specs.View.{items_view}
use Rattle.rb_base.specs.Window.{Span}
use Rattle.rb_script_types.specs.declared.script.Asked.{Asked}
use Rattle.rb_script_types.specs.declared.script.HostWindow.{HostWindow}
use Rattle.rb_script_types.specs.declared.script.Settlement.{Settlement}
use Rattle.rb_script_toml.specs.Faults.{Fault, ◌>>=◌, check}
use Rattle.rb_script_toml.specs.KeyPaths.{child}
use Rattle.rb_script_toml.specs.Fields.{Section, items, only, needs, optional, or_default, time, elements}
use Rattle.rb_script_toml.specs.declared.fault.FaultName.TheVariants.{BadWindow}
use Rattle.rb_script_config.specs.Goals.{asked, settlement}
use Rattle.rb_script_config.specs.HostWindows.{host_window}
use Rattle.rb_import_setup.specs.declared.setup.ClientSetup.{ClientSetup}
use Rattle.rb_import_setup.specs.declared.setup.TurnSetup.{TurnSetup}
use Rattle.rb_import_setup.specs.declared.turn.Frame.{Frame as CodeFrame}
use Rattle.rb_import_setup.specs.Clients.{client_ids}

abbrev pub turn_keys : List (List ℕ)
turn_keys = codes "from" ∷ codes "until" ∷ codes "window" ∷ codes "goal" ∷ codes "settle" ∷ []

-- what a turn's own keys hold
pub record Frame : Type 0 where
  pub window : Span
  pub windows : Items
  pub goals : Items
  pub settlements : Items

abbrev pub frame_view : CodeFrame → Frame
frame_view f = record { window = f.window; windows = items_view f.windows.now; goals = items_view f.goals.now; settlements = items_view f.settlements.now }

unfoldable pub frame : Section → Result Frame Fault
frame s = do
  _ ← only turn_keys s
  from ← needs (codes "from") time s
  until ← needs (codes "until") time s
  windows ← or_default no_items items (optional (codes "window") s)
  goals ← or_default no_items items (optional (codes "goal") s)
  settlements ← or_default no_items items (optional (codes "settle") s)
  _ ← check (nat_le from until) BadWindow s.path
  Ok (record { window = record { from = from; until = until }; windows = windows; goals = goals; settlements = settlements })

-- a turn: its window, those of hosts that have one of their own, its goals and its settlements
pub record Turn : Type 0 where
  pub window : Span
  pub windows : List HostWindow
  pub goals : List Asked
  pub settlements : List Settlement

abbrev pub turn_view : TurnSetup → Turn
turn_view t = record { window = t.window; windows = t.windows.items; goals = t.goals.items; settlements = t.settlements.items }

-- a turn of clients that these chains host; the turns before it don't matter
unfoldable pub turn : List (List ℕ) → List ClientSetup → List Turn → Section → Result Turn Fault
turn chains clients before s = do
  f ← frame s
  windows ← elements (host_window chains) (child s.path (codes "window")) [] f.windows
  goals ← elements (asked (client_ids clients)) (child s.path (codes "goal")) [] f.goals
  settlements ← elements (settlement (client_ids clients)) (child s.path (codes "settle")) [] f.settlements
  Ok (record { window = f.window; windows = windows; goals = goals; settlements = settlements })
