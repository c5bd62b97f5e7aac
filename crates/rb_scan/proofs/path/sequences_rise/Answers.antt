use Rattle.std.proofs.Common.{ltb, rules}
use Rattle.std.proofs.lemmas.List.Sorted.{answers_always}
use Rattle.rb_scan.specs.Packet.{Packet}
use Rattle.rb_scan.proofs.Rising.{rises-from_neighbours}
use Rattle.rb_scan.proofs.path.sequences_rise.Goals as goal

pub returns : goal.returns
returns c =
    rises-from_neighbours (λ (x : Packet). x.sequence) c.args.packets.now c.is_sorted_by.result
    (c.is_sorted_by.ensures.cases (λ a b. ltb a.sequence b.sequence) (answers_always _ _ _ (λ f a r q h. search rules)))
