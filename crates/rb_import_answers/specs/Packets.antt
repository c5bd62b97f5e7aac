-- The answer of CometBFT's `/tx_search`: what transactions did with packets (ICS 4; ibc-go's names).
use Rattle.std.specs.Prelude.{ℕ, suc, ◌+◌, ◌^◌, ◌++◌, List, [], ◌∷◌, length, map, Option, Some, None, option_and_then, option_to_list, Result, Ok, Err, codes, string_bytes, nat_lt, ◌==◌, ◌&&◌, ◌||◌, not, if◌then◌else◌, Bool, false}
use Rattle.std.specs.List.{position_or_len, before_first, after_first}
use Rattle.std.specs.Result.{result_ok}
use Rattle.std.specs.Str.{bytes_eq, is_utf8}
use Rattle.serde_json.specs.Data.{Data, Items, no_items, item}
use Rattle.serde_json.specs.Find.{get, as_str, as_number, as_u64}
use Rattle.base64.specs.Engines.{standard}
use Rattle.base64.specs.GeneralPurpose.{decode_of}
use Rattle.rb_import_answers.specs.declared.packets.PacketKind.{PacketKind}
use Rattle.rb_import_answers.specs.declared.packets.PacketKind.TheVariants.{Sent, Received, AckWritten, Cleared, TimedOut}
use Rattle.rb_import_answers.specs.declared.packets.PacketEvent.{PacketEvent}
use Rattle.rb_import_answers.specs.declared.packets.PacketPage.{PacketPage}
use Rattle.rb_import_answers.specs.declared.packets.RevisionHeight.{RevisionHeight}
use Rattle.rb_import_answers.specs.declared.transactions.Timeout.{Timeout as CodeTimeout}
use Rattle.rb_import_json.specs.declared.error.FieldError.{FieldError}
use Rattle.rb_import_json.specs.declared.error.FieldErrorName.TheVariants.{MissingField, WrongType, BadNumber, BadBase64}
use Rattle.rb_import_json.specs.declared.field_path.Key.{Key}
use Rattle.rb_import_json.specs.declared.field_path.Segment.{Segment}
use Rattle.rb_import_json.specs.FieldErrors.{◌>>=◌, must, or_flaw}
use Rattle.rb_import_json.specs.Fields.{Object, flaw_at, field, inner, items, text, number, height}
use Rattle.rb_import_json.specs.Names.{key_name}
use Rattle.rb_import_json.specs.Values.{number_of}
use Rattle.rb_import_answers.specs.Numbers.{sequence_of}

-- what was done with a packet, by an event's type
abbrev pub kind_of : List ℕ → Option PacketKind
kind_of name =
    if bytes_eq name (codes "send_packet") then Some Sent
    else if bytes_eq name (codes "recv_packet") then Some Received
    else if bytes_eq name (codes "write_acknowledgement") then Some AckWritten
    else if bytes_eq name (codes "acknowledge_packet") then Some Cleared
    else if bytes_eq name (codes "timeout_packet") then Some TimedOut
    else None

-- ---- attributes

-- the base64 of an attribute's name, as names and values stood before CometBFT 0.37
abbrev pub encoded_name : Key → List ℕ
encoded_name Key.PacketDstChannel = codes "cGFja2V0X2RzdF9jaGFubmVs"
encoded_name Key.PacketDstPort = codes "cGFja2V0X2RzdF9wb3J0"
encoded_name Key.PacketSequence = codes "cGFja2V0X3NlcXVlbmNl"
encoded_name Key.PacketSrcPort = codes "cGFja2V0X3NyY19wb3J0"
encoded_name Key.PacketSrcChannel = codes "cGFja2V0X3NyY19jaGFubmVs"
encoded_name Key.PacketTimeoutHeight = codes "cGFja2V0X3RpbWVvdXRfaGVpZ2h0"
encoded_name Key.PacketTimeoutTimestamp = codes "cGFja2V0X3RpbWVvdXRfdGltZXN0YW1w"
encoded_name _ = []

-- the text of a member of an object, if both are
unfoldable pub member_text : List ℕ → Data → Option (List ℕ)
member_text name d = option_and_then as_str (get name d)

abbrev pub if_utf8 : List ℕ → Option (List ℕ)
if_utf8 bytes = if is_utf8 bytes then Some bytes else None

-- the text that a value in base64 stands for
unfoldable pub decoded : Key → Object → List ℕ → Result (List ℕ) FieldError
decoded name event value = or_flaw (flaw_at event name BadBase64) (option_and_then if_utf8 (result_ok (decode_of standard value)))

abbrev pub of_entry : Key → Object → Option (List ℕ) → Option (List ℕ) → Result (Option (List ℕ)) FieldError
of_entry name event (Some key) (Some value) =
    if bytes_eq key (key_name name) then Ok (Some value)
    else if bytes_eq key (encoded_name name) then (decoded name event value >>= λ t. Ok (Some t))
    else Ok None
of_entry name event (Some key) None = Ok None
of_entry name event None value = Ok None

-- the text of an attribute, if it is of this name
unfoldable pub entry_text : Key → Object → Data → Result (Option (List ℕ)) FieldError
entry_text name event d = of_entry name event (member_text (codes "key") d) (member_text (codes "value") d)

abbrev pub or_else : Option (List ℕ) → Result (List ℕ) FieldError → Result (List ℕ) FieldError
or_else (Some t) rest = Ok t
or_else None rest = rest

-- the text of the first attribute of this name
abbrev pub attribute : Key → Object → Items → Result (List ℕ) FieldError
attribute name event no_items = Err (flaw_at event name MissingField)
attribute name event (item d ds) = entry_text name event d >>= λ t. or_else t (attribute name event ds)

unfoldable pub attribute_number : Key → Object → Items → Result ℕ FieldError
attribute_number name event ds = do
  t ← attribute name event ds
  or_flaw (flaw_at event name BadNumber) (number_of t)

abbrev pub is_dash : ℕ → Bool
is_dash b = b == 45

abbrev pub pair_of : Option ℕ → Option ℕ → Option RevisionHeight
pair_of (Some revision) (Some height) = Some (record { revision = revision; height = height })
pair_of (Some revision) None = None
pair_of None height = None

-- a height as `REVISION-HEIGHT` (ICS 2)
unfoldable pub revision_height_of : List ℕ → Option RevisionHeight
revision_height_of t = if nat_lt (position_or_len is_dash t) (length t) then pair_of (number_of (before_first is_dash t)) (number_of (after_first is_dash t)) else None

unfoldable pub attribute_height : Key → Object → Items → Result RevisionHeight FieldError
attribute_height name event ds = do
  t ← attribute name event ds
  or_flaw (flaw_at event name BadNumber) (revision_height_of t)

-- a packet's sequence
unfoldable pub sequence : Object → Items → Result ℕ FieldError
sequence event ds = do
  n ← attribute_number Key.PacketSequence event ds
  or_flaw (flaw_at event Key.PacketSequence BadNumber) (sequence_of n)

-- an end of a packet's way: the port and the channel that these attributes hold, as `port/channel`
unfoldable pub end_of : Key → Key → Object → Items → Result (List ℕ) FieldError
end_of port channel event ds = do
  p ← attribute port event ds
  c ← attribute channel event ds
  Ok (p ++ 47 ∷ [] ++ c)

abbrev pub is_text : List ℕ → Option (List ℕ) → Bool
is_text name (Some key) = bytes_eq key name
is_text name None = false

-- whether an attribute has this name
abbrev pub is_named : Key → Data → Bool
is_named name d = is_text (key_name name) (member_text (codes "key") d)

-- whether an attribute of this name is there
abbrev pub is_there : Key → Items → Bool
is_there name no_items = false
is_there name (item d ds) = is_named name d || is_there name ds

-- whether a packet goes between clients, as those of IBC v2 do (ibc-go: `packet_source_client`), and not between channels
abbrev pub are_of_clients : Items → Bool
are_of_clients ds = is_there Key.PacketSourceClient ds && not (is_there Key.PacketSrcPort ds)

-- ---- packets

-- until when a packet may be received; 0 is no height, and no time
pub record Timeout : Type 0 where
  pub height : RevisionHeight
  pub time : ℕ

abbrev pub timeout_view : CodeTimeout → Timeout
timeout_view t = record { height = t.height; time = t.time }

abbrev pub no_timeout : Timeout
no_timeout = record { height = record { revision = 0; height = 0 }; time = 0 }

-- the timeouts of a packet that was sent
unfoldable pub timeout : PacketKind → Object → Items → Result Timeout FieldError
timeout Sent event ds = do
  h ← attribute_height Key.PacketTimeoutHeight event ds
  t ← attribute_number Key.PacketTimeoutTimestamp event ds
  Ok (record { height = h; time = t })
timeout Received event ds = Ok no_timeout
timeout AckWritten event ds = Ok no_timeout
timeout Cleared event ds = Ok no_timeout
timeout TimedOut event ds = Ok no_timeout

-- what was done with a packet, in which block
pub record Packet : Type 0 where
  pub kind : PacketKind
  pub block : ℕ
  pub sequence : ℕ
  pub source : List ℕ
  pub dest : List ℕ
  pub timeout : Timeout

abbrev pub packet_view : PacketEvent → Packet
packet_view p = record { kind = p.kind; block = p.block; sequence = p.sequence; source = string_bytes p.source; dest = string_bytes p.dest; timeout = record { height = p.timeout_height; time = p.timeout_time } }

unfoldable pub packet : PacketKind → ℕ → Object → Items → Result Packet FieldError
packet kind block event ds = do
  n ← sequence event ds
  from ← end_of Key.PacketSrcPort Key.PacketSrcChannel event ds
  to ← end_of Key.PacketDstPort Key.PacketDstChannel event ds
  until ← timeout kind event ds
  Ok (record { kind = kind; block = block; sequence = n; source = from; dest = to; timeout = until })

-- packets between clients are passed over
unfoldable pub if_channels : PacketKind → ℕ → Object → Items → Result (Option Packet) FieldError
if_channels kind block event ds = if are_of_clients ds then Ok None else (packet kind block event ds >>= λ p. Ok (Some p))

unfoldable pub of_kind : PacketKind → ℕ → Object → Result (Option Packet) FieldError
of_kind kind block event = do
  ds ← items Key.Attributes event
  if_channels kind block event ds

abbrev pub if_packet : ℕ → Object → Option PacketKind → Result (Option Packet) FieldError
if_packet block event (Some kind) = of_kind kind block event
if_packet block event None = Ok None

-- an event, if it is about a packet of a channel
unfoldable pub event : ℕ → Object → Result (Option Packet) FieldError
event block o = do
  kind ← text Key.Type o
  if_packet block o (kind_of kind)

-- ---- transactions

-- what events that stand at the place of an object tell of packets, after those before them
abbrev pub events : ℕ → Object → List Packet → Items → Result (List Packet) FieldError
events block o before no_items = Ok before
events block o before (item d ds) = event block (record { value = d; part = o.part; index = o.index }) >>= λ p. events block o (before ++ option_to_list p) ds

-- the number of a failure, which is 0 where there was none
unfoldable pub code : Object → Result ℕ FieldError
code o = do
  d ← field Key.Code o
  or_flaw (flaw_at o Key.Code WrongType) (option_and_then as_u64 (as_number d))

abbrev pub if_done : ℕ → ℕ → Object → Object → List Packet → Result (List Packet) FieldError
if_done number block o done before = if number == 0 then (items Key.Events done >>= events block o before) else Ok before

-- the block that a transaction stands in, whose next height, the first that proves what it wrote, is a height too
unfoldable pub block_of : Object → Result ℕ FieldError
block_of o = do
  n ← height Key.Height o
  _ ← must (flaw_at o Key.Height BadNumber) (nat_lt (n + 1) (2 ^ 63))
  Ok n

-- what a transaction did, after those before it: nothing, if it failed
unfoldable pub transaction : List Packet → Object → Result (List Packet) FieldError
transaction before o = do
  number ← block_of o
  done ← inner Key.TxResult o
  n ← code done
  if_done n number o done before

abbrev pub transactions : ℕ → List Packet → Items → Result (List Packet) FieldError
transactions index before no_items = Ok before
transactions index before (item d ds) = transaction before (record { value = d; part = Segment.Transactions; index = Some index }) >>= λ all. transactions (suc index) all ds

abbrev pub count_of : Items → ℕ
count_of no_items = 0
count_of (item d ds) = suc (count_of ds)

-- how many transactions the search found, how many of them stand here, and what they did
pub record Search : Type 0 where
  pub total : ℕ
  pub count : ℕ
  pub packets : List Packet

abbrev pub search_view : PacketPage → Search
search_view p = record { total = p.total; count = p.count; packets = map packet_view p.events.items }

unfoldable pub found : Object → Result Search FieldError
found result = do
  total ← number Key.TotalCount result
  ds ← items Key.Txs result
  all ← transactions 0 [] ds
  Ok (record { total = total; count = count_of ds; packets = all })
