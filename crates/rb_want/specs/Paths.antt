-- Which requests a path needs that names both ends of its channel: what tells which of its packets are pending, and where each was sent, received and
-- acknowledged (ICS 4).
use Rattle.std.specs.Prelude.{◌≡◌, ℕ, ◌==◌, nat_le, if◌then◌else◌, List, [], ◌∷◌, ◌++◌, Option, Some, None, slice_get}
use Rattle.std.specs.List.{flat_map, list_any, range_with_len}
use Rattle.rb_import_setup.specs.declared.setup.PathSetup.{PathSetup}
use Rattle.rb_script_types.specs.Channels.{end_text}
use Rattle.rb_script_types.specs.declared.channel.Channel.{Channel}
use Rattle.rb_script_types.specs.declared.channel.ChannelEnd.{ChannelEnd}
use Rattle.rb_script_types.specs.declared.waits.Waits.{Waits}
use Rattle.rb_want_requests.specs.Answered.{has_all, next_part}
use Rattle.rb_want_requests.specs.PacketPaths.{pending_in}
use Rattle.rb_want_requests.specs.declared.answered.PartKind.TheVariants as kinds
use Rattle.rb_want_requests.specs.declared.content.Folder.{Folder}
use Rattle.rb_want_requests.specs.Requests.{is_named}
use Rattle.rb_want_requests.specs.declared.reason.PathEnd.{PathEnd}
use Rattle.rb_want_requests.specs.declared.request.Owner.TheVariants as owners
use Rattle.rb_want_requests.specs.declared.request.Query.{Query}
use Rattle.rb_want_requests.specs.declared.request.Query.TheVariants as queries
use Rattle.rb_want_requests.specs.declared.request.Request.{Request}
use Rattle.rb_want.specs.Packets.{is_received, lacks_ack, parts_in, sent_block, written_block}
use Rattle.rb_want.specs.declared.path.PathCase.{PathCase}
use Rattle.rb_want.specs.declared.path.Side.{Side}

-- a path by its place in the setup, the first sequence that it has to do with, how long its messages may wait, and both ends of its channel
pub record NamedPath : Type 0 where
  pub place : ℕ
  pub id : List ℕ
  pub first : ℕ
  pub waits : Waits
  pub source : Side
  pub destination : Side

-- a request to an end of the channel
abbrev pub side_request : NamedPath → Side → Query → Request
side_request p side query = record { chain = side.chain; owner = owners.Path p.place p.id side.end; query = query }

-- of a part of the pending packets, which weren't received, and of which the acknowledgement was written
abbrev pub part_needs : NamedPath → ℕ → List Request
part_needs p part = side_request p p.destination (queries.Unreceived part) ∷ side_request p p.destination (queries.Acknowledgements part) ∷ []

-- where the acknowledgement was written, if no answer tells it
abbrev pub ack_needs : NamedPath → Folder → ℕ → List Request
ack_needs p folder n = if lacks_ack folder (end_text p.source.end) n then side_request p p.destination (queries.AckWritten n) ∷ [] else []

-- where a packet was received, and its acknowledgement written
abbrev pub received_needs : NamedPath → Folder → ℕ → List Request
received_needs p folder n =
    if is_received folder.contents.items n then side_request p p.destination (queries.Received n) ∷ ack_needs p folder n else []

-- of a pending packet that the path has to do with: where it was sent and, where that was done, received and acknowledged
unfoldable pub packet_needs : NamedPath → Folder → ℕ → List Request
packet_needs p folder n = if nat_le p.first n then side_request p p.source (queries.Sent n) ∷ received_needs p folder n else []

-- the header of this block of an end's chain
abbrev pub block_needs : Side → Option ℕ → List Request
block_needs side None = []
block_needs side (Some height) = record { chain = side.chain; owner = owners.Chain side.place; query = queries.Commit height } ∷ []

-- of a packet whose receive may wait, the block that sent it
abbrev pub sent_time_needs : NamedPath → Folder → ℕ → List Request
sent_time_needs p folder n = if p.waits.receive == 0 then [] else block_needs p.source (sent_block (end_text p.source.end) n folder.contents.items)

-- of a packet whose acknowledgement may wait, the block that wrote that
abbrev pub written_time_needs : NamedPath → Folder → ℕ → List Request
written_time_needs p folder n =
    if p.waits.acknowledge == 0 then [] else block_needs p.destination (written_block (end_text p.source.end) n folder.contents.items)

-- of a pending packet that the path has to do with, what tells since when its next message waits: the header of the block that sent it or, where it
-- was received, of the block that wrote the acknowledgement
unfoldable pub time_needs : NamedPath → Folder → ℕ → List Request
time_needs p folder n =
    if nat_le p.first n
    then (if is_received folder.contents.items n then written_time_needs p folder n else sent_time_needs p folder n)
    else []

-- all pages of the commitments; once they are there, what became of each part of the pending packets, and then of each packet; behind all
-- that since when each waits
unfoldable pub path_needs : NamedPath → Folder → List Request
path_needs p folder =
    if has_all kinds.Commitments folder.contents.items
    then flat_map (part_needs p) (range_with_len 1 (parts_in folder.contents.items))
    ++ flat_map (packet_needs p folder) (pending_in folder.contents.items) ++ flat_map (time_needs p folder) (pending_in folder.contents.items)
    else side_request p p.source (queries.Commitments (next_part kinds.Commitments folder.contents.items)) ∷ []

-- ---- what isn't given

-- where the end of the channel refused a query, that it doesn't give which packets are pending
abbrev pub side_ends : NamedPath → Folder → Side → Query → List PathEnd
side_ends p folder side query = if is_named folder.refused.items query then record { path = p.id; chain = side.chain } ∷ [] else []

abbrev pub part_ends : NamedPath → Folder → ℕ → List PathEnd
part_ends p folder part =
    side_ends p folder p.destination (queries.Unreceived part) ++ side_ends p folder p.destination (queries.Acknowledgements part)

-- of the commitments; once all of these are there, of each part of the pending packets
unfoldable pub path_ends : NamedPath → Folder → List PathEnd
path_ends p folder =
    if has_all kinds.Commitments folder.contents.items
    then flat_map (part_ends p folder) (range_with_len 1 (parts_in folder.contents.items))
    else side_ends p folder p.source (queries.Commitments (next_part kinds.Commitments folder.contents.items))

-- ---- the paths of a setup

-- an end of a path's channel on the chain at a place
abbrev pub side_of : ℕ → Option (List ℕ) → Option ChannelEnd → Option Side
side_of place (Some chain) (Some end) = Some (record { place = place; chain = chain; end = end })
side_of place _ _ = None

abbrev pub between : ℕ → PathSetup → Option Side → Option Side → Option NamedPath
between place p (Some source) (Some destination) =
    Some (record { place = place; id = p.config.id; first = p.config.first; waits = p.config.waits; source = source; destination = destination })
between place p _ _ = None

abbrev pub source_end : Option Channel → Option ChannelEnd
source_end (Some channel) = Some channel.source
source_end None = None

abbrev pub destination_end : Option Channel → Option ChannelEnd
destination_end (Some channel) = channel.counterparty
destination_end None = None

-- the path at a place, over the setup's chains, if it names both ends of its channel
unfoldable pub named_path : List (List ℕ) → ℕ → PathSetup → Option NamedPath
named_path chains place p =
    between place p (side_of p.config.source (slice_get chains p.config.source) (source_end p.config.channel))
    (side_of p.config.destination (slice_get chains p.config.destination) (destination_end p.config.channel))

abbrev pub needs_in : Option NamedPath → Option Folder → List Request
needs_in (Some p) (Some folder) = path_needs p folder
needs_in _ _ = []

-- what the path at a place needs, over the setup's chains and the folders of the paths
abbrev pub needs_at : List (List ℕ) → List Folder → ℕ × PathSetup → List Request
needs_at chains folders p = needs_in (named_path chains p.0 p.1) (slice_get folders p.0)

abbrev pub ends_in : Option NamedPath → Option Folder → List PathEnd
ends_in (Some p) (Some folder) = path_ends p folder
ends_in _ _ = []

-- why no more is asked for the path at a place
abbrev pub ends_at : List (List ℕ) → List Folder → ℕ × PathSetup → List PathEnd
ends_at chains folders p = ends_in (named_path chains p.0 p.1) (slice_get folders p.0)

abbrev pub path_view : PathCase → NamedPath
path_view p = record { place = p.place; id = p.id; first = p.first; waits = p.waits; source = p.source; destination = p.destination }

-- the case is that of the path at a place, with the folder of it; there is none where the path doesn't name both ends
abbrev pub IsCaseAt : List (List ℕ) → List Folder → ℕ × PathSetup → Option PathCase → Type 0
IsCaseAt chains folders p None = (needs_at chains folders p ≡ []) × (ends_at chains folders p ≡ [])
IsCaseAt chains folders p (Some case) =
    (needs_at chains folders p ≡ path_needs (path_view case) case.answers.folder.now) × (ends_at chains folders p ≡ path_ends (path_view case) case.answers.folder.now)
