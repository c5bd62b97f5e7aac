-- A packet as JSON (ibc-go, `Packet`).
use Rattle.std.specs.Prelude.{ℕ, List, [], ◌∷◌, codes}
use Rattle.rb_script_text.specs.Json.{Json, string, object, ◌is◌}
use Rattle.rb_packets.specs.Packets.{ChannelPacket}
use Rattle.rb_packets.specs.Values.{bytes_json, height_json, number_json}

unfoldable pub data_members : ChannelPacket → List (List ℕ × Json)
data_members p =
    (codes "data" is bytes_json p.«data»)
    ∷ (codes "timeout_height" is height_json p.timeout_height)
    ∷ (codes "timeout_timestamp" is number_json p.timeout_time)
    ∷ []

unfoldable pub dest_members : ChannelPacket → List (List ℕ × Json)
dest_members p = (codes "destination_port" is string p.dest_port) ∷ (codes "destination_channel" is string p.dest_channel) ∷ data_members p

unfoldable pub source_members : ChannelPacket → List (List ℕ × Json)
source_members p = (codes "source_port" is string p.source_port) ∷ (codes "source_channel" is string p.source_channel) ∷ dest_members p

unfoldable pub packet_json : ChannelPacket → Json
packet_json p = object ((codes "sequence" is number_json p.sequence) ∷ source_members p)
