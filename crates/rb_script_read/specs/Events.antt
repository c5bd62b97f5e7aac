-- The tables of events.
use Rattle.std.specs.Prelude.{ℕ, List, [], ◌∷◌, ◌++◌, codes, Option, Some, None, option_map, unwrap_or, slice_get, Result, Ok, ◌==◌, if◌then◌else◌}
use Rattle.std.specs.declared.alloc.Global.{Global}
use Rattle.std.specs.Str.{bytes_eq}
use Rattle.rb_valset.specs.ValidatorSet.{set_hash}
use Rattle.rb_book.specs.declared.vote.Vote.{Vote}
use Rattle.rb_book.specs.declared.vote.Vote.TheVariants.{Commit, Nil, Absent, Bad}
use Rattle.rb_script_types.specs.Config.{Config}
use Rattle.rb_script_types.specs.declared.config.ClientConfig.{ClientConfig}
use Rattle.rb_script_types.specs.declared.observation.Observation.{Observation}
use Rattle.rb_script_types.specs.declared.observation.Observation.TheVariants.{SetSeen, HeaderSeen, StoredSeen}
use Rattle.rb_script_toml.specs.Faults.{Fault, ◌>>=◌, fault}
use Rattle.rb_script_toml.specs.Fields.{Field, Section, text, only, needs, optional, or_default, height, time, hash, zero_hash}
use Rattle.rb_script_toml.specs.declared.fault.FaultName.TheVariants.{BadKind, BadVotes}
use Rattle.rb_script_read.specs.declared.event.EventKind.{EventKind}
use Rattle.rb_script_read.specs.declared.event.EventKind.TheVariants as kinds
use Rattle.rb_script_config.specs.Named.{reference}
use Rattle.rb_script_read.specs.Names.{Names, with_name, new_set_name, set_reference}
use Rattle.rb_script_config.specs.Clients.{client_ids}
use Rattle.rb_script_read.specs.Sets.{validators}
use Rattle.rb_script_read.specs.Packets.{sent, received, ack_written, cleared, closed}

-- ---- kinds and votes

abbrev pub kind_of : List ℕ → Option EventKind
kind_of word =
    if bytes_eq word (codes "set") then Some kinds.Set
    else if bytes_eq word (codes "header") then Some kinds.Header
    else if bytes_eq word (codes "stored") then Some kinds.Stored
    else if bytes_eq word (codes "sent") then Some kinds.Sent
    else if bytes_eq word (codes "received") then Some kinds.Received
    else if bytes_eq word (codes "ack") then Some kinds.Ack
    else if bytes_eq word (codes "cleared") then Some kinds.Cleared
    else if bytes_eq word (codes "closed") then Some kinds.Closed
    else None

abbrev pub known_kind : List ℕ → Option EventKind → Result EventKind Fault
known_kind path (Some k) = Ok k
known_kind path None = fault BadKind path

unfoldable pub kind : Field → Result EventKind Fault
kind f = do
  word ← text f
  known_kind f.path (kind_of word)

-- C, N, A or B
abbrev pub vote_of : ℕ → Option Vote
vote_of letter =
    if letter == 67 then Some Commit
    else if letter == 78 then Some Nil
    else if letter == 65 then Some Absent
    else if letter == 66 then Some Bad
    else None

abbrev pub known_vote : List ℕ → Option Vote → Result Vote Fault
known_vote path (Some v) = Ok v
known_vote path None = fault BadVotes path

abbrev pub votes_after : List ℕ → List Vote → List ℕ → Result (List Vote) Fault
votes_after path before [] = Ok before
votes_after path before (b ∷ bs) = known_vote path (vote_of b) >>= λ v. votes_after path (before ++ v ∷ []) bs

unfoldable pub votes : Field → Result (List Vote) Fault
votes f = do
  letters ← text f
  votes_after f.path [] letters

-- ---- events of chains and clients

abbrev pub set_keys : List (List ℕ)
set_keys = codes "kind" ∷ codes "chain" ∷ codes "name" ∷ codes "validators" ∷ []

-- a set, and the names that are known after it
unfoldable pub set_seen : List (List ℕ) → Names → Section → Result (Observation Global × Names) Fault
set_seen chains names s = do
  _ ← only set_keys s
  chain ← needs (codes "chain") (reference chains) s
  name ← needs (codes "name") (new_set_name (names chain)) s
  set ← needs (codes "validators") validators s
  Ok (SetSeen chain set, with_name chain name (set_hash set) names)

abbrev pub header_keys : List (List ℕ)
header_keys = codes "kind" ∷ codes "chain" ∷ codes "height" ∷ codes "time" ∷ codes "root" ∷ codes "set" ∷ codes "next" ∷ codes "votes" ∷ []

unfoldable pub header_seen : List (List ℕ) → Names → Section → Result (Observation Global) Fault
header_seen chains names s = do
  _ ← only header_keys s
  chain ← needs (codes "chain") (reference chains) s
  at ← needs (codes "height") height s
  time ← needs (codes "time") time s
  root ← or_default zero_hash hash (optional (codes "root") s)
  set ← needs (codes "set") (set_reference (names chain)) s
  next ← needs (codes "next") (set_reference (names chain)) s
  vs ← needs (codes "votes") votes s
  Ok (HeaderSeen chain (record {
    height = at;
    record_of = record { time = time; root = root; next = next };
    set_hash = set;
    votes = vs;
  }))

-- the chain that a client tracks
abbrev pub tracked_by : List ClientConfig → ℕ → ℕ
tracked_by clients i = unwrap_or (option_map (λ c. c.tracks) (slice_get clients i)) 0

abbrev pub stored_keys : List (List ℕ)
stored_keys = codes "kind" ∷ codes "client" ∷ codes "height" ∷ codes "time" ∷ codes "root" ∷ codes "next" ∷ []

unfoldable pub stored_seen : List ClientConfig → Names → Section → Result (Observation Global) Fault
stored_seen clients names s = do
  _ ← only stored_keys s
  client ← needs (codes "client") (reference (client_ids clients)) s
  at ← needs (codes "height") height s
  time ← needs (codes "time") time s
  root ← or_default zero_hash hash (optional (codes "root") s)
  next ← needs (codes "next") (set_reference (names (tracked_by clients client))) s
  Ok (StoredSeen client at (record { time = time; root = root; next = next }))

-- ---- events of all kinds, and the names that are known after them

-- an event that gives no name
abbrev pub unnamed : Names → Result (Observation Global) Fault → Result (Observation Global × Names) Fault
unnamed names read = read >>= λ e. Ok (e, names)

abbrev pub event_of_kind : EventKind → Config → Names → Section → Result (Observation Global × Names) Fault
event_of_kind kinds.Set c names s = set_seen c.chains names s
event_of_kind kinds.Header c names s = unnamed names (header_seen c.chains names s)
event_of_kind kinds.Stored c names s = unnamed names (stored_seen c.clients names s)
event_of_kind kinds.Sent c names s = unnamed names (sent c.version c.paths s)
event_of_kind kinds.Received c names s = unnamed names (received c.paths s)
event_of_kind kinds.Ack c names s = unnamed names (ack_written c.version c.paths s)
event_of_kind kinds.Cleared c names s = unnamed names (cleared c.paths s)
event_of_kind kinds.Closed c names s = unnamed names (closed c.paths s)

-- the keys of a table depend on its kind, which is read first
unfoldable pub event : Config → Names → Section → Result (Observation Global × Names) Fault
event c names s = do
  kind ← needs (codes "kind") kind s
  event_of_kind kind c names s
