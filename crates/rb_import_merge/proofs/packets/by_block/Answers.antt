use Rattle.std.proofs.Common.{◌≡◌, rules}
use Rattle.std.proofs.lemmas.Fn.{always_returns_same}
use Rattle.rb_import_merge.specs.declared.packets.SeenPacket.{SeenPacket}
use Rattle.rb_import_merge.specs.Packets.{place_of}
use Rattle.rb_import_merge.proofs.packets.by_block.Goals as goal

pub returns-clause-order : goal.returns-clause-order
returns-clause-order c =
    c.in_ok-sort_by_key.ensures.sorted (λ (s : SeenPacket). (place_of s.event.now.kind, s.event.now.block, s.event.now.sequence))
    (always_returns_same _ (λ a r. r ≡ (place_of a.0.now.event.now.kind, a.0.now.event.now.block, a.0.now.event.now.sequence)) _ (λ a r q k. search rules))
