-- What a log begins with: what was known of each chain, client and path, which the configuration names by its place.
use Rattle.std.specs.Prelude.{◌≡◌, ℕ, zero, suc, Bool, List, [], ◌∷◌, ◌++◌, map, replicate, length, Option, None}
use mathlib.Core.List.{IsPrefix}
use Rattle.rb_base.specs.Window.{Span}
use Rattle.rb_book.specs.Book.{Book}
use Rattle.rb_scan.specs.Packet.{Packet}
use Rattle.rb_script_types.specs.Config.{Config}
use Rattle.rb_script_types.specs.declared.config.ClientConfig.{ClientConfig}
use Rattle.rb_script_types.specs.declared.config.PathConfig.{PathConfig}
use Rattle.rb_script_types.specs.declared.goal.Goal.{Goal}
use Rattle.rb_core_model.specs.Event.{Event}
use Rattle.rb_core_model.specs.Standing.{OpenBatch, ClientState, PathState, Standing, empty_book, new_client, new_path}

-- of a client, and of a path
pub record ClientSnapshot : Type 0 where
  pub window : Option Span
  pub stored : List ℕ
  pub asked : Option Goal
  pub batches : ℕ
  pub batch : Option OpenBatch

pub record PathSnapshot : Type 0 where
  pub first : ℕ
  pub packets : List Packet
  pub closed : Bool

pub record Snapshot : Type 0 where
  pub window : Option Span
  pub books : List Book
  pub clients : List ClientSnapshot
  pub paths : List PathSnapshot

-- before the first event
abbrev pub nothing : Snapshot
nothing = record { window = None; books = []; clients = []; paths = [] }

-- ---- what is known of how things stand

abbrev pub snapshot_of_client : ClientState → ClientSnapshot
snapshot_of_client c = record { window = c.window; stored = c.stored; asked = c.asked; batches = c.batches; batch = c.batch }

abbrev pub snapshot_of_path : PathState → PathSnapshot
snapshot_of_path p = record { first = p.first; packets = p.packets; closed = p.closed }

abbrev pub snapshot_of : Standing → Snapshot
snapshot_of s = record { window = s.window; books = s.books; clients = map snapshot_of_client s.clients; paths = map snapshot_of_path s.paths }

-- ---- how things stand where that is known

-- so many books: the ones that are known, and empty ones
abbrev pub books_from : List Book → ℕ → ℕ → List Book
books_from [] limit chains = replicate chains (empty_book limit)
books_from (b ∷ bs) limit zero = []
books_from (b ∷ bs) limit (suc chains) = b ∷ books_from bs limit chains

abbrev pub client_from : ClientConfig → ClientSnapshot → ClientState
client_from config x = record { config = config; window = x.window; stored = x.stored; asked = x.asked; batches = x.batches; batch = x.batch }

abbrev pub clients_from : List ClientSnapshot → List ClientConfig → List ClientState
clients_from [] cs = map new_client cs
clients_from (x ∷ xs) [] = []
clients_from (x ∷ xs) (c ∷ cs) = client_from c x ∷ clients_from xs cs

abbrev pub path_from : PathConfig → PathSnapshot → PathState
path_from config x = record { config = config; first = x.first; packets = x.packets; closed = x.closed }

abbrev pub paths_from : List PathSnapshot → List PathConfig → List PathState
paths_from [] ps = map new_path ps
paths_from (x ∷ xs) [] = []
paths_from (x ∷ xs) (p ∷ ps) = path_from p x ∷ paths_from xs ps

abbrev pub standing_from : Config → Snapshot → Standing
standing_from c x = record {
  window = x.window;
  books = books_from x.books c.limit (length c.chains);
  clients = clients_from x.clients c.clients;
  paths = paths_from x.paths c.paths;
}

-- ---- logs

-- what was known before, and the events that were taken in since
pub record Log : Type 0 where
  pub start : Snapshot
  pub events : List Event

abbrev pub from_nothing : List Event → Log
from_nothing events = record { start = nothing; events = events }

-- the log with more events
abbrev pub followed_by : Log → List Event → Log
followed_by log events = record log { events = log.events ++ events }

-- the second log begins with the first
abbrev pub IsBeginning : Log → Log → Type 0
IsBeginning a b = (b.start ≡ a.start) × IsPrefix a.events b.events
