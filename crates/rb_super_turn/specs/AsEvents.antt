-- Scripts as turns tell them: what was observed, as events.
use Rattle.std.specs.Prelude.{ℕ, ◌+◌, ◌*◌, map, length}
use Rattle.rb_script_types.specs.Config.{Config}
use Rattle.rb_script_types.specs.Script.{Turn as SeenTurn, Script as SeenScript, turn_view, entry_count, IsReadTurn}
use Rattle.rb_script_types.specs.declared.script.Turn.{Turn as CodeTurn}
use Rattle.rb_core_model.specs.Seen.{observed}
use Rattle.rb_super_turn.specs.Script.{Turn, Script}

abbrev pub turn_as_events : {A : Type 0} → SeenTurn A → Turn
turn_as_events t = record { window = t.window; windows = t.windows; goals = t.goals; events = map observed t.events; settlements = t.settlements; taken = t.taken }

abbrev pub as_events : {A : Type 0} → SeenScript A → Script
as_events s = record { config = s.config; turns = map turn_as_events s.turns }

-- a turn as it lies in memory
abbrev pub code_turn_as_events : {A : Type 0} → CodeTurn A → Turn
code_turn_as_events t = turn_as_events (turn_view t)

-- it names what a configuration has
abbrev pub IsTurnFor : {A : Type 0} → Config → CodeTurn A → Type 0
IsTurnFor c t = IsReadTurn (length c.chains) (length c.clients) (length c.paths) (turn_view t)

-- the most events that it gives: its window, its entries, the scans of both parts of each path, and a plan for each client and the taking
-- of its batch
abbrev pub most_events : {A : Type 0} → Config → CodeTurn A → ℕ
most_events c t = 1 + entry_count (turn_view t) + 2 * length c.paths + 2 * length c.clients
