-- The bytes that an event tells of a packet (ICS 4; ibc-go, `send_packet` and `write_acknowledgement`).
use Rattle.std.specs.Prelude.{ℕ, List, Bool, false, ◌&&◌, if◌then◌else◌, Option, Some, None, codes}
use Rattle.std.specs.Fmt.{decimal}
use Rattle.serde_json.specs.Data.{Data, Items}
use Rattle.serde_json.specs.Find.{as_array, get}
use Rattle.rb_packets.specs.declared.attribute.Attribute.{Attribute}
use Rattle.rb_packets.specs.declared.attribute.Attribute.TheVariants as attributes
use Rattle.rb_packets.specs.declared.event.PacketBytes.{PacketBytes}
use Rattle.rb_packets.specs.declared.event.PacketBytes.TheVariants as asked
use Rattle.rb_packets.specs.declared.event.PacketWay.{PacketWay}
use Rattle.rb_packets.specs.Attributes.{attribute_bytes, has_attribute, hex_bytes, is_text, member_text}
use Rattle.rb_packets.specs.Steps.{◌>>=◌}

-- which packet it is
pub record Way : Type 0 where
  pub sequence : ℕ
  pub source_port : List ℕ
  pub source_channel : List ℕ
  pub dest_port : List ℕ
  pub dest_channel : List ℕ

abbrev pub way_view : PacketWay → Way
way_view w = record {
  sequence = w.sequence;
  source_port = w.source_port.now;
  source_channel = w.source_channel.now;
  dest_port = w.dest_port.now;
  dest_channel = w.dest_channel.now;
}

abbrev pub event_type : PacketBytes → List ℕ
event_type asked.Data = codes "send_packet"
event_type asked.Acknowledgement = codes "write_acknowledgement"

abbrev pub hex_name : PacketBytes → Attribute
hex_name asked.Data = attributes.DataHex
hex_name asked.Acknowledgement = attributes.AcknowledgementHex

abbrev pub text_name : PacketBytes → Attribute
text_name asked.Data = attributes.Data
text_name asked.Acknowledgement = attributes.Acknowledgement

unfoldable pub is_of_type : PacketBytes → Data → Bool
is_of_type kind d = is_text (event_type kind) (member_text (codes "type") d)

unfoldable pub has_source : Way → Items → Bool
has_source w ds = has_attribute attributes.SourcePort w.source_port ds && has_attribute attributes.SourceChannel w.source_channel ds

unfoldable pub has_dest : Way → Items → Bool
has_dest w ds = has_attribute attributes.DestPort w.dest_port ds && has_attribute attributes.DestChannel w.dest_channel ds

unfoldable pub ends_are : Way → Items → Bool
ends_are w ds = has_source w ds && has_dest w ds

-- whether attributes are on a packet
unfoldable pub is_on : Way → Items → Bool
is_on w ds = has_attribute attributes.Sequence (decimal w.sequence) ds && ends_are w ds

abbrev pub hex_or_text : Option (List ℕ) → Option (List ℕ) → Option (List ℕ)
hex_or_text (Some digits) text = hex_bytes digits
hex_or_text None text = text

-- in hexadecimal digits, or else as a text, as older releases have them
unfoldable pub bytes_of : PacketBytes → Items → Option (List ℕ)
bytes_of kind ds = hex_or_text (attribute_bytes (hex_name kind) ds) (attribute_bytes (text_name kind) ds)

unfoldable pub of_attributes : PacketBytes → Way → Items → Option (List ℕ)
of_attributes kind w ds = if is_on w ds then bytes_of kind ds else None

unfoldable pub event_bytes : PacketBytes → Way → Data → Option (List ℕ)
event_bytes kind w d =
    if is_of_type kind d then (get (codes "attributes") d >>= λ list. as_array list >>= λ ds. of_attributes kind w ds) else None
