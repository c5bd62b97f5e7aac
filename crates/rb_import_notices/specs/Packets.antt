-- Packets that are left out, since answers on them are lacking.
use Rattle.std.specs.Prelude.{◌-◌, ℕ, List, [], Option, Some, None, length, map, option_map, position, slice_get, string_bytes, take}
use Rattle.std.specs.Str.{bytes_eq}
use Rattle.rb_import_check.specs.declared.saved.Saved.{Saved}
use Rattle.rb_import_check.specs.declared.saved.SavedAnswers.{SavedAnswers}
use Rattle.rb_import_merge.specs.declared.left_out.LeftOutPacket.{LeftOutPacket}
use Rattle.rb_import_merge.specs.declared.path.SeenPath.{SeenPath}
use Rattle.rb_import_merge.specs.declared.seen.SeenSetup.{SeenSetup}
use Rattle.rb_import_merge.specs.Seen.{answers_at}
use Rattle.rb_import_notices.specs.declared.notice.Notice.{Notice}
use Rattle.rb_import_notices.specs.declared.notice.Notice.TheVariants.{MorePackets, PacketLeftOut}

-- the packets of a path that are left out, by rising sequence
abbrev pub left_out_in : Option SeenPath → List LeftOutPacket
left_out_in (Some path) = path.left_out.items
left_out_in None = []

-- those that are told one by one: the first 100
abbrev pub told_of : List LeftOutPacket → List LeftOutPacket
told_of packets = take 100 packets

-- the place of the answer of this file
abbrev pub answer_of : List Saved → List ℕ → Option ℕ
answer_of saved file = position (λ (s : Saved). bytes_eq (string_bytes s.file) file) saved

abbrev pub packet_left_out : List Saved → ℕ → LeftOutPacket → Notice
packet_left_out saved path p = PacketLeftOut path p.sequence p.lack (answer_of saved p.file.now)

-- a notice for each of these
abbrev pub packets_left_out : SavedAnswers → SeenSetup → ℕ → List Notice
packets_left_out answers seen path =
    map (packet_left_out (answers_at answers.paths.items path) path) (told_of (left_out_in (slice_get seen.paths.items path)))

abbrev more_in : ℕ → List LeftOutPacket → Option Notice
more_in path packets = option_map (λ (next : LeftOutPacket). MorePackets path (length packets - 100) next.sequence) (slice_get packets 100)

-- a path with more such packets: how many, and the least sequence of these
abbrev pub more_packets : SeenSetup → ℕ → Option Notice
more_packets seen path = more_in path (left_out_in (slice_get seen.paths.items path))
