use Rattle.std.proofs.Common.{not, rules}
use Rattle.std.proofs.lemmas.Fn.{filter_same}
use Rattle.rb_import_merge.specs.declared.packets.SeenPacket.{SeenPacket}
use Rattle.rb_import_merge.specs.LeftOut.{left_out_by}
use Rattle.rb_import_merge.proofs.left_out.staying_of.Goals as goal

pub returns : goal.returns
returns c =
    filter_same _ (λ (p : SeenPacket). not (left_out_by c.args.order c.args.left_out.now p.event.now.sequence)) _ (λ x b f' k. search rules) _ _ c.retain.ensures.filtered
