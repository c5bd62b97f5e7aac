-- The paths of requests about the packets of an end of a channel (ICS 4): to ibc-go's gateway, which says what is pending there, and to CometBFT's
-- `/tx_search`.
use Rattle.std.specs.Prelude.{ℕ, ◌-◌, ◌*◌, ◌/◌, ◌%◌, ◌==◌, ◌||◌, if◌then◌else◌, Bool, true, List, [], ◌∷◌, ◌++◌, slice_range, codes}
use Rattle.std.specs.List.{flat_map, list_any}
use Rattle.std.specs.Char.{is_ascii_alphanumeric}
use Rattle.std.specs.Fmt.{decimal, digit_glyph}
use Rattle.rb_script_types.specs.declared.channel.ChannelEnd.{ChannelEnd}
use Rattle.rb_want_requests.specs.Pending.{committed_in}
use Rattle.rb_want_requests.specs.declared.content.Content.{Content}
use Rattle.rb_want_requests.specs.declared.request.Query.{Query}
use Rattle.rb_want_requests.specs.declared.request.Query.TheVariants as queries

-- ---- identifiers in a URL (RFC 3986)

-- a letter, a digit or one of `-._`, which stand for themselves
unfoldable pub is_plain : ℕ → Bool
is_plain b = is_ascii_alphanumeric b || list_any (λ c. c == b) (codes "-._")

-- a byte as itself, or as `%` and its number in two hexadecimal digits
unfoldable pub encoded_byte : ℕ → List ℕ
encoded_byte b = if is_plain b then b ∷ [] else 37 ∷ digit_glyph true (b / 16) ∷ digit_glyph true (b % 16) ∷ []

abbrev pub encoded : List ℕ → List ℕ
encoded id = flat_map encoded_byte id

-- ---- parts of the pending packets

-- the sequences of all packets to which the source holds a commitment, as these files tell
abbrev pub pending_in : List Content → List ℕ
pending_in there = flat_map committed_in there

-- the part with a number, from 1, of 100 sequences each
abbrev pub part_of : ℕ → List ℕ → List ℕ
part_of part sequences = slice_range sequences (part * 100 - 100) (part * 100)

-- sequences, with what stands before the first, and before each other
abbrev pub listed : List ℕ → List ℕ → List ℕ → List ℕ
listed first next [] = []
listed first next (n ∷ ns) = first ++ (decimal n ++ listed next next ns)

-- ---- paths

-- a search for the transactions with an event on a packet, whose end is the packet's source (`src`) or destination (`dst`)
abbrev pub search_path : List ℕ → List ℕ → ChannelEnd → ℕ → List ℕ
search_path event side end sequence =
    codes "/tx_search?query=%22" ++ (event ++ (codes ".packet_" ++ (side ++ (codes "_channel='" ++ (encoded end.channel
    ++ (codes "'%20AND%20" ++ (event ++ (codes ".packet_sequence='" ++ (decimal sequence ++ codes "'%22&per_page=100")))))))))

-- what the gateway gives of an end of a channel
abbrev pub channel_path : ChannelEnd → List ℕ
channel_path end = codes "/ibc/core/channel/v1/channels/" ++ (encoded end.channel ++ (codes "/ports/" ++ encoded end.port))

-- of this part of the pending packets, which weren't received, or of which the acknowledgement was written
abbrev pub states_path : Query → List Content → List ℕ
states_path (queries.Commitments page) there = codes "/packet_commitments?pagination.limit=" ++ decimal 1000
states_path (queries.Unreceived part) there =
    codes "/packet_commitments/" ++ (listed [] (codes ",") (part_of part (pending_in there)) ++ codes "/unreceived_packets")
states_path (queries.Acknowledgements part) there =
    codes "/packet_acknowledgements"
    ++ listed (codes "?packet_commitment_sequences=") (codes "&packet_commitment_sequences=") (part_of part (pending_in there))
states_path _ there = []

-- the path of a request about packets of an end of a channel, of which these files tell what is pending
abbrev pub packet_path : Query → ChannelEnd → List Content → List ℕ
packet_path (queries.Sent sequence) end there = search_path (codes "send_packet") (codes "src") end sequence
packet_path (queries.Received sequence) end there = search_path (codes "recv_packet") (codes "dst") end sequence
packet_path (queries.AckWritten sequence) end there = search_path (codes "write_acknowledgement") (codes "dst") end sequence
packet_path query end there = channel_path end ++ states_path query there
