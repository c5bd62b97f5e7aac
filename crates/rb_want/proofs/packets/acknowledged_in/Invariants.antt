use Rattle.std.specs.Prelude.{◌≡◌, take}
use Rattle.std.specs.List.{flat_map}
use Rattle.rb_want.specs.Packets.{acknowledged_of}
use Rattle.rb_want.proofs.packets.acknowledged_in.Given as goal

-- the sequences of the answers so far
abbrev pub invariant-loop-content : goal.invariant-loop-content
invariant-loop-content l = l.sequences.items ≡ flat_map acknowledged_of (take l.content-index l.contents)
