use Rattle.std.proofs.Common.{rules}
use Rattle.std.proofs.lemmas.Fn.{filter_same}
use Rattle.rb_import_merge.specs.declared.packets.SeenPacket.{SeenPacket}
use Rattle.rb_import_merge.specs.LeftOut.{has_room}
use Rattle.rb_import_merge.proofs.surplus.fitting_of.Goals as goal

pub returns : goal.returns
returns c = filter_same _ (λ (p : SeenPacket). has_room c.args.surplus p.event.now.sequence) _ (λ x b f' k. search rules) _ _ c.retain.ensures.filtered
