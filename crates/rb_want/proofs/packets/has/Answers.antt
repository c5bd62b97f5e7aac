use Rattle.std.proofs.Common.{◌∙◌}
use Rattle.rb_want.proofs.Sequences.{is_found}
use Rattle.rb_want.proofs.packets.has.Goals as goal

pub returns : goal.returns
returns c = c.is_ok.ensures.value ∙ is_found c.args.sequences.now c.args.sequence c.binary_search.result c.requires c.binary_search.ensures.position
