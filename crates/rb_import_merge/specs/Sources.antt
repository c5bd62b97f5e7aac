-- The sources of the packets that a path's answers tell of (ICS 4).
use Rattle.std.specs.Prelude.{◌≡◌, ℕ, Bool, false, List, [], ◌∷◌, Option, Some, None, IsSome, IsSomeAnd, string_bytes}
use Rattle.std.specs.List.{list_any}
use Rattle.std.specs.Option.{option_or}
use Rattle.std.specs.Str.{bytes_eq}
use Rattle.rb_import_answers.specs.declared.packets.PacketEvent.{PacketEvent}
use Rattle.rb_import_setup.specs.declared.setup.PathSetup.{PathSetup}
use Rattle.rb_import_check.specs.declared.saved.Saved.{Saved}
use Rattle.rb_import_merge.specs.declared.sources.OtherSource.{OtherSource}
use Rattle.rb_import_merge.specs.Packets.{events_in}

-- whether an answer tells of a packet from this source
abbrev pub tells_from : List ℕ → Saved → Bool
tells_from source s = list_any (λ (e : PacketEvent). bytes_eq (string_bytes e.source) source) (events_in s.answer)

-- whether one of the answers does
abbrev pub tell_from : List ℕ → List Saved → Bool
tell_from source saved = list_any (tells_from source) saved

abbrev pub source_of : List PacketEvent → Option (List ℕ)
source_of [] = None
source_of (e ∷ es) = Some (string_bytes e.source)

-- the source of the first packet that the answers tell of; none where they tell of none
abbrev pub first_source : List Saved → Option (List ℕ)
first_source [] = None
first_source (s ∷ saved) = option_or (source_of (events_in s.answer)) (first_source saved)

-- the setup names the path's source, and the answers tell of packets, but of none from it
abbrev pub LacksSource : PathSetup → List Saved → Type 0
LacksSource setup saved = IsSomeAnd setup.source_channel (λ named. tell_from (string_bytes named) saved ≡ false) × IsSome (first_source saved)

-- the source that the setup names, and that of the first packet
abbrev pub AreSources : PathSetup → List Saved → OtherSource → Type 0
AreSources setup saved s = IsSomeAnd setup.source_channel (λ named. s.named.now ≡ string_bytes named) × (first_source saved ≡ Some s.told.now)
