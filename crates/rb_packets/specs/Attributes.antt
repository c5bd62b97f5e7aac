-- The attributes of an event (CometBFT, `EventAttribute`; ibc-go's names): plain, or names and values in base64, as they stood before CometBFT 0.37.
use Rattle.std.specs.Prelude.{ℕ, List, Bool, false, if◌then◌else◌, Option, Some, None, option_and_then, codes}
use Rattle.std.specs.Result.{result_ok}
use Rattle.std.specs.Str.{bytes_eq}
use Rattle.serde_json.specs.Data.{Data, Items, item, no_items}
use Rattle.serde_json.specs.Find.{as_str, get}
use Rattle.hex.specs.Hex.{decode_of as hex_decode_of}
use Rattle.rb_packets.specs.declared.attribute.Attribute.{Attribute}
use Rattle.rb_packets.specs.declared.attribute.Attribute.TheVariants as attributes
use Rattle.rb_packets.specs.Json.{base64_bytes}
use Rattle.rb_packets.specs.Steps.{first_of}

abbrev pub plain_name : Attribute → List ℕ
plain_name attributes.Sequence = codes "packet_sequence"
plain_name attributes.SourcePort = codes "packet_src_port"
plain_name attributes.SourceChannel = codes "packet_src_channel"
plain_name attributes.DestPort = codes "packet_dst_port"
plain_name attributes.DestChannel = codes "packet_dst_channel"
plain_name attributes.DataHex = codes "packet_data_hex"
plain_name attributes.Data = codes "packet_data"
plain_name attributes.AcknowledgementHex = codes "packet_ack_hex"
plain_name attributes.Acknowledgement = codes "packet_ack"

-- the base64 of the name
abbrev pub encoded_name : Attribute → List ℕ
encoded_name attributes.Sequence = codes "cGFja2V0X3NlcXVlbmNl"
encoded_name attributes.SourcePort = codes "cGFja2V0X3NyY19wb3J0"
encoded_name attributes.SourceChannel = codes "cGFja2V0X3NyY19jaGFubmVs"
encoded_name attributes.DestPort = codes "cGFja2V0X2RzdF9wb3J0"
encoded_name attributes.DestChannel = codes "cGFja2V0X2RzdF9jaGFubmVs"
encoded_name attributes.DataHex = codes "cGFja2V0X2RhdGFfaGV4"
encoded_name attributes.Data = codes "cGFja2V0X2RhdGE="
encoded_name attributes.AcknowledgementHex = codes "cGFja2V0X2Fja19oZXg="
encoded_name attributes.Acknowledgement = codes "cGFja2V0X2Fjaw=="

-- the text of a member of an object, if both are
unfoldable pub member_text : List ℕ → Data → Option (List ℕ)
member_text name d = option_and_then as_str (get name d)

unfoldable pub hex_bytes : List ℕ → Option (List ℕ)
hex_bytes digits = result_ok (hex_decode_of digits)

-- the bytes of a value, if its key is of this name
abbrev pub value_bytes : Attribute → List ℕ → List ℕ → Option (List ℕ)
value_bytes name key value =
    if bytes_eq key (plain_name name) then Some value else if bytes_eq key (encoded_name name) then base64_bytes value else None

abbrev pub of_entry : Attribute → Option (List ℕ) → Option (List ℕ) → Option (List ℕ)
of_entry name (Some key) (Some value) = value_bytes name key value
of_entry name (Some key) None = None
of_entry name None value = None

unfoldable pub attribute_at : Attribute → Data → Option (List ℕ)
attribute_at name d = of_entry name (member_text (codes "key") d) (member_text (codes "value") d)

-- the bytes of the first attribute of this name
abbrev pub attribute_bytes : Attribute → Items → Option (List ℕ)
attribute_bytes name no_items = None
attribute_bytes name (item d ds) = first_of (attribute_at name d) (attribute_bytes name ds)

abbrev pub is_text : List ℕ → Option (List ℕ) → Bool
is_text text (Some bytes) = bytes_eq bytes text
is_text text None = false

unfoldable pub has_attribute : Attribute → List ℕ → Items → Bool
has_attribute name text ds = is_text text (attribute_bytes name ds)
