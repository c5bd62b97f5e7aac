-- scripts, with chains, clients and paths named by their places
use Rattle.std.specs.Prelude.{◌≡◌, ◌≢◌, ℕ, ◌+◌, ◌<◌, ◌≤◌, Bool, List, length, map, sum_by, All, AllPairs}
use Rattle.rb_base.specs.Window.{Span}
use Rattle.rb_script_types.specs.declared.observation.Observation.{Observation}
use Rattle.rb_script_types.specs.declared.observation.Observation.TheVariants.{SetSeen, HeaderSeen, StoredSeen, Sent, Received, AckWritten, Cleared, Closed}
use Rattle.rb_script_types.specs.declared.script.Asked.{Asked}
use Rattle.rb_script_types.specs.declared.script.HostWindow.{HostWindow}
use Rattle.rb_script_types.specs.declared.script.Settlement.{Settlement}
use Rattle.rb_script_types.specs.declared.script.Script.{Script as CodeScript}
use Rattle.rb_script_types.specs.declared.script.Turn.{Turn as CodeTurn}
use Rattle.rb_script_types.specs.declared.config.Config.{Config as CodeConfig}
use Rattle.rb_script_types.specs.Config.{Config, config_view, IsConfig}
use Rattle.rb_script_types.specs.Limits.{max_turns, max_entries}

-- the window, those of hosts that have one of their own, what is asked, what was seen before, what was settled after, and whether all that is open then was taken
pub record Turn (A : Type 0) : Type 0 where
  pub window : Span
  pub windows : List HostWindow
  pub goals : List Asked
  pub events : List (Observation A)
  pub settlements : List Settlement
  pub taken : Bool

pub record Script (A : Type 0) : Type 0 where
  pub config : Config
  pub turns : List (Turn A)

abbrev pub turn_view : {A : Type 0} → CodeTurn A → Turn A
turn_view t = record { window = t.window; windows = t.windows.items; goals = t.goals.items; events = t.events.items; settlements = t.settlements.items; taken = t.taken }

abbrev pub script_view : {A : Type 0} → CodeScript A → Script A
script_view s = record { config = config_view s.config; turns = map turn_view s.turns.items }

-- ---- what every script keeps

-- what was seen is of a chain, a client or a path that is there, with so many of them
abbrev pub IsReadObservation : {A : Type 0} → ℕ → ℕ → ℕ → Observation A → Type 0
IsReadObservation chains clients paths (SetSeen chain set) = chain < chains
IsReadObservation chains clients paths (HeaderSeen chain header) = chain < chains
IsReadObservation chains clients paths (StoredSeen client height stored) = client < clients
IsReadObservation chains clients paths (Sent path sequence block timeout_height timeout_time) = path < paths
IsReadObservation chains clients paths (Received path sequence block) = path < paths
IsReadObservation chains clients paths (AckWritten path sequence block) = path < paths
IsReadObservation chains clients paths (Cleared path sequence) = path < paths
IsReadObservation chains clients paths (Closed path) = path < paths

-- a host that is there, and a window that doesn't end before it begins
abbrev pub IsReadWindow : ℕ → HostWindow → Type 0
IsReadWindow chains w = (w.host < chains) × (w.window.from ≤ w.window.until)

-- a turn doesn't end before it begins, gives each host and asks each client at most once, and names what is there
pub record IsReadTurn {A : Type 0} (chains clients paths : ℕ) (t : Turn A) : Type 0 where
  pub window : t.window.from ≤ t.window.until
  pub windows : All (IsReadWindow chains) t.windows
  pub hosts : AllPairs (λ (v w : HostWindow). v.host ≢ w.host) t.windows
  pub goals : All (λ (g : Asked). g.client < clients) t.goals
  pub once : AllPairs (λ (g h : Asked). g.client ≢ h.client) t.goals
  pub events : All (IsReadObservation chains clients paths) t.events
  pub settlements : All (λ (x : Settlement). x.client < clients) t.settlements

-- the windows of hosts, goals, events and settlements of a turn
abbrev pub entry_count : {A : Type 0} → Turn A → ℕ
entry_count t = length t.windows + length t.goals + length t.events + length t.settlements

pub record IsReadScript {A : Type 0} (s : Script A) : Type 0 where
  pub config : IsConfig s.config
  pub turns : All (IsReadTurn (length s.config.chains) (length s.config.clients) (length s.config.paths)) s.turns
  pub few_turns : length s.turns ≤ max_turns
  pub few_entries : sum_by entry_count s.turns ≤ max_entries

-- the turn as it lies in memory, of a script that is set up so
abbrev pub IsTurnOf : {A : Type 0} → CodeConfig A → CodeTurn A → Type 0
IsTurnOf c t = IsReadTurn (length c.chains.items) (length c.clients.items) (length c.paths.items) (turn_view t)
