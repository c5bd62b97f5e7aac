-- Scripts, with chains, clients and paths named by their places.
use Rattle.std.specs.Prelude.{◌≢◌, ◌<◌, ◌≤◌, Bool, List, length, All, AllPairs}
use Rattle.rb_base.specs.Window.{Span}
use Rattle.rb_script_types.specs.Config.{Config}
use Rattle.rb_script_types.specs.declared.script.Asked.{Asked as Question}
use Rattle.rb_script_types.specs.declared.script.HostWindow.{HostWindow as WindowOf}
use Rattle.rb_script_types.specs.declared.script.Settlement.{Settlement}
use Rattle.rb_core_model.specs.Config.{IsSetUp}
use Rattle.rb_core_model.specs.Event.{Event, IsEvent, Window, HostWindow, Asked, SetSeen, HeaderSeen, StoredSeen, Sent, Received, AckWritten, Cleared, Closed, Scanned, Planned, Settled}

-- the window, those of hosts that have one of their own, what is asked, what was seen before, what was settled after, and whether all that is open then was taken
pub record Turn : Type 0 where
  pub window : Span
  pub windows : List WindowOf
  pub goals : List Question
  pub events : List Event
  pub settlements : List Settlement
  pub taken : Bool

pub record Script : Type 0 where
  pub config : Config
  pub turns : List Turn

-- ---- what every script keeps

-- the event is something seen of a chain or a path that is there
abbrev pub IsSeen : Config → Event → Type 0
IsSeen c (Window window) = ⊥
IsSeen c (HostWindow host window) = ⊥
IsSeen c (Asked client goal) = ⊥
IsSeen c (SetSeen chain set) = chain < length c.chains
IsSeen c (HeaderSeen chain header) = chain < length c.chains
IsSeen c (StoredSeen client height r) = client < length c.clients
IsSeen c (Sent path sequence block timeout_height timeout_time) = path < length c.paths
IsSeen c (Received path sequence block) = path < length c.paths
IsSeen c (AckWritten path sequence block) = path < length c.paths
IsSeen c (Cleared path sequence) = path < length c.paths
IsSeen c (Closed path) = path < length c.paths
IsSeen c (Scanned path scan) = ⊥
IsSeen c (Planned d) = ⊥
IsSeen c (Settled client number done) = ⊥

-- a turn doesn't end before it begins, and asks each client at most once
pub record IsTurn (c : Config) (t : Turn) : Type 0 where
  pub window : t.window.from ≤ t.window.until
  pub windows : All (λ (w : WindowOf). (w.host < length c.chains) × (w.window.from ≤ w.window.until)) t.windows
  pub goals : All (λ (g : Question). g.client < length c.clients) t.goals
  pub once : AllPairs (λ (g h : Question). g.client ≢ h.client) t.goals
  pub events : All (IsSeen c) t.events
  pub right : All IsEvent t.events
  pub settlements : All (λ (x : Settlement). x.client < length c.clients) t.settlements

pub record IsScript (s : Script) : Type 0 where
  pub config : IsSetUp s.config
  pub turns : All (IsTurn s.config) s.turns
