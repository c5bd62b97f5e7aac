use Rattle.std.proofs.Common.{List, All, map, subst, sym}
use Rattle.std.specs.Prelude.{Contains}
use Rattle.std.specs.List.Sorted.{IsStrictlyIncreasing}
use Rattle.rb_import_merge.specs.declared.left_out.LeftOutPacket.{LeftOutPacket}
use Rattle.rb_import_merge.specs.LeftOut.{HasEntry, sequence_of}
use Rattle.rb_import_merge.proofs.Leaving.{firsts_among, firsts_have, firsts_rise}
use Rattle.rb_import_merge.proofs.left_out.by_sequence.Goals as goal

pub returns-clause-among : goal.returns-clause-among
returns-clause-among c =
    subst (All (Contains c.args.lacking.items)) (sym c.firsts_of.ensures) (firsts_among c.args.lacking.items c.in_ok-sorted.sorted.items c.in_ok-sorted.ensures.same)

pub returns-clause-all : goal.returns-clause-all
returns-clause-all c =
    subst (λ (left : List LeftOutPacket). All (λ (l : LeftOutPacket). HasEntry l.sequence left) c.args.lacking.items) (sym c.firsts_of.ensures)
    (firsts_have c.args.lacking.items c.in_ok-sorted.sorted.items c.in_ok-sorted.ensures.same)

pub returns-clause-rising : goal.returns-clause-rising
returns-clause-rising c =
    subst (λ (left : List LeftOutPacket). IsStrictlyIncreasing (map sequence_of left)) (sym c.firsts_of.ensures) (firsts_rise c.in_ok-sorted.sorted.items c.in_ok-sorted.ensures.order)
