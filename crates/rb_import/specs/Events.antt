-- The events of a script: of each chain its sets and headers, of each client its consensus states, of each path its packets.
use Rattle.std.specs.Prelude.{ℕ, ◌^◌, ◌==◌, nat_lt, Bool, true, false, ◌&&◌, if◌then◌else◌, List, [], ◌∷◌, ◌++◌, map, reverse, Option, Some, None, option_map, option_to_list, slice_get, Vec}
use Rattle.std.specs.Global.{Global as GlobalAllocator}
use Rattle.std.specs.declared.alloc.Global.{Global}
use Rattle.std.specs.List.{enumerate_from, flat_map}
use Rattle.std.specs.Option.{option_and_then}
use Rattle.rb_book.specs.Header.{Header}
use Rattle.rb_book.specs.declared.vote.Vote.{Vote}
use Rattle.rb_book.specs.declared.vote.Vote.TheVariants as votes
use Rattle.rb_scan.specs.declared.path.Order.{Order}
use Rattle.rb_scan.specs.declared.path.Order.TheVariants.{Ordered, Unordered}
use Rattle.rb_script_types.specs.declared.block.Block.{Block}
use Rattle.rb_script_types.specs.declared.config.PathConfig.{PathConfig}
use Rattle.rb_script_types.specs.declared.observation.Observation.{Observation}
use Rattle.rb_script_types.specs.declared.observation.Observation.TheVariants.{SetSeen, HeaderSeen, StoredSeen, Sent, Received, AckWritten, Cleared, Closed}
use Rattle.rb_import_answers.specs.declared.commit.BlockIdFlag.{BlockIdFlag}
use Rattle.rb_import_answers.specs.declared.commit.BlockIdFlag.TheVariants as flags
use Rattle.rb_import_answers.specs.declared.commit.Signature.{Signature}
use Rattle.rb_import_answers.specs.declared.packets.PacketEvent.{PacketEvent}
use Rattle.rb_import_answers.specs.declared.packets.PacketKind.{PacketKind}
use Rattle.rb_import_answers.specs.declared.packets.PacketKind.TheVariants as kinds
use Rattle.rb_import_answers.specs.declared.verdicts.CommitVerdict.{CommitVerdict}
use Rattle.rb_import_check.specs.Chains.{block_time}
use Rattle.rb_import_check.specs.declared.chain.Commit.{Commit}
use Rattle.rb_import_check.specs.declared.chain.SeenChain.{SeenChain}
use Rattle.rb_import_check.specs.declared.client.Stored.{Stored}
use Rattle.rb_import_check.specs.declared.sets.SeenSet.{SeenSet}
use Rattle.rb_import_check.specs.Signed.{is_bad}
use Rattle.rb_import_setup.specs.declared.setup.PathSetup.{PathSetup}
use Rattle.rb_import_setup.specs.declared.setup.ImportSetup.{ImportSetup}
use Rattle.rb_import_merge.specs.declared.kept.KeptSets.{KeptSets}
use Rattle.rb_import_merge.specs.declared.packets.SeenPacket.{SeenPacket}
use Rattle.rb_import_merge.specs.declared.path.SeenPath.{SeenPath}
use Rattle.rb_import_merge.specs.declared.seen.SeenSetup.{SeenSetup}
use Rattle.rb_import_merge.specs.Seen.{is_written}

-- ---- chains

-- the set of a chain at a place
abbrev pub set_at : ℕ → SeenChain → ℕ → List (Observation Global)
set_at place chain i = option_to_list (option_map (λ (s : SeenSet). SetSeen place s.set) (slice_get chain.sets.sets.items i))

-- the sets of a chain that its light store has room for, those of the highest heights first
unfoldable pub set_events : ℕ → SeenChain → KeptSets → List (Observation Global)
set_events place chain kept = flat_map (set_at place chain) (reverse kept.places.items)

-- a vote by its flag (CometBFT, `BlockIDFlag`); a vote for the block may be bad
abbrev pub vote_by : Bool → BlockIdFlag → Vote
vote_by true flags.Commit = votes.Bad
vote_by false flags.Commit = votes.Commit
vote_by is_bad flags.Nil = votes.Nil
vote_by is_bad flags.Absent = votes.Absent

abbrev pub vote_at : Option CommitVerdict → ℕ × Signature → Vote
vote_at verdict p = vote_by (is_bad verdict p.0) p.1.flag

-- the votes of a commit, in set order
unfoldable pub votes_in : Commit → List Vote
votes_in c = map (vote_at (option_map (λ v. v.now) c.verdict)) (enumerate_from 0 c.header.now.signatures.items)

abbrev pub header_in : Commit → Header
header_in c = record {
  height = c.header.now.height;
  record_of = record { time = c.header.now.time; root = c.header.now.root; next = c.header.now.next };
  set_hash = c.header.now.set;
  votes = votes_in c;
}

-- the header of a commit, where there is an event of its own set
abbrev pub header_at : SeenSetup → ℕ → Commit → List (Observation Global)
header_at seen place c =
    if is_written (slice_get seen.chains.items place) (slice_get seen.sets.items place) c.header.now.set then HeaderSeen place (header_in c) ∷ [] else []

unfoldable pub header_events : SeenSetup → ℕ → List Commit → List (Observation Global)
header_events seen place commits = flat_map (header_at seen place) commits

abbrev pub sets_of : ℕ → SeenChain → Option KeptSets → List (Observation Global)
sets_of place chain (Some kept) = set_events place chain kept
sets_of place chain None = []

-- the events of the chain at a place
unfoldable pub chain_events : SeenSetup → ℕ × SeenChain → List (Observation Global)
chain_events seen p = sets_of p.0 p.1 (slice_get seen.sets.items p.0) ++ header_events seen p.0 p.1.commits.items

unfoldable pub chains_events : SeenSetup → List (Observation Global)
chains_events seen = flat_map (chain_events seen) (enumerate_from 0 seen.chains.items)

-- ---- clients

-- a consensus state that a client has stored
abbrev pub stored_in : ℕ → Stored → Observation Global
stored_in client s = StoredSeen client s.state.now.height (record { time = s.state.now.time; root = s.state.now.root; next = s.state.now.next })

-- those of the client at a place that there is room for
abbrev pub client_events : ℕ × Vec Stored GlobalAllocator → List (Observation Global)
client_events p = map (stored_in p.0) p.1.items

unfoldable pub clients_events : SeenSetup → List (Observation Global)
clients_events seen = flat_map client_events (enumerate_from 0 seen.records.items)

-- ---- paths

-- the chain whose block an event of a path's packet stands in, where messages wait from that block's time on: the source of one that was sent, and
-- the destination of one that was acknowledged
abbrev pub writer_of : PathConfig → PacketKind → Option ℕ
writer_of path kinds.Sent = Some path.source
writer_of path kinds.AckWritten = Some path.destination
writer_of path kinds.Received = None
writer_of path kinds.Cleared = None
writer_of path kinds.TimedOut = None

-- the time of a block of the chain at a place, where a header of it was seen
abbrev pub time_at : SeenSetup → ℕ → ℕ → Option ℕ
time_at seen place height = option_and_then (λ (c : SeenChain). block_time (c.commits.items ++ c.bare.items) height) (slice_get seen.chains.items place)

-- the block that an event stands in, and its time
abbrev pub block_of : SeenSetup → PathConfig → PacketEvent → Block
block_of seen path e = record { height = e.block; time = option_and_then (λ place. time_at seen place e.block) (writer_of path e.kind) }

-- a height, and none for 0
abbrev pub height_of : ℕ → Option ℕ
height_of n = if nat_lt 0 n && nat_lt n (2 ^ 63) then Some n else None

-- 0 is none (ICS 4)
abbrev pub unless_zero : ℕ → Option ℕ
unless_zero n = if n == 0 then None else Some n

-- a packet whose timeout came is cleared, as one whose acknowledgement came is (ICS 4)
abbrev pub packet_by : PacketKind → ℕ → Block → SeenPacket → Observation Global
packet_by kinds.Sent path block p = Sent path p.event.now.sequence block (height_of p.expiry) (unless_zero p.event.now.timeout_time)
packet_by kinds.Received path block p = Received path p.event.now.sequence block.height
packet_by kinds.AckWritten path block p = AckWritten path p.event.now.sequence block
packet_by kinds.Cleared path block p = Cleared path p.event.now.sequence
packet_by kinds.TimedOut path block p = Cleared path p.event.now.sequence

-- the event of a packet of the path at a place
abbrev pub packet_in : SeenSetup → ℕ → PathConfig → SeenPacket → Observation Global
packet_in seen place path p = packet_by p.event.now.kind place (block_of seen path p.event.now) p

abbrev pub is_ordered : Order → Bool
is_ordered Ordered = true
is_ordered Unordered = false

-- an ordered path of which a packet timed out is closed (ICS 4)
abbrev pub closing : ℕ → PathConfig → Bool → List (Observation Global)
closing place path timed_out = if is_ordered path.order && timed_out then Closed place ∷ [] else []

-- the events of the path at a place
unfoldable pub path_events : SeenSetup → ℕ → PathConfig → SeenPath → List (Observation Global)
path_events seen place path it = map (packet_in seen place path) it.packets.items ++ closing place path it.timed_out

abbrev pub events_of : SeenSetup → ℕ → PathConfig → Option SeenPath → List (Observation Global)
events_of seen place path (Some it) = path_events seen place path it
events_of seen place path None = []

abbrev pub path_at : SeenSetup → ℕ × PathSetup → List (Observation Global)
path_at seen p = events_of seen p.0 p.1.config (slice_get seen.paths.items p.0)

unfoldable pub paths_events : ImportSetup → SeenSetup → List (Observation Global)
paths_events setup seen = flat_map (path_at seen) (enumerate_from 0 setup.paths.items)

-- of each chain its sets and headers, of each client its consensus states, of each path its packets
unfoldable pub events_in : ImportSetup → SeenSetup → List (Observation Global)
events_in setup seen = chains_events seen ++ clients_events seen ++ paths_events setup seen
