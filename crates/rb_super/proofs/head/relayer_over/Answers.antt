use Rattle.std.proofs.Common.{length, refl, sym, subst}
use Rattle.rb_super_turn.proofs.Kept.{tables_none}
use Rattle.rb_super_turn.specs.Tables.{AreTables}
use Rattle.rb_super.specs.Heads.{head_of}
use Rattle.rb_super.proofs.head.relayer_over.Goals as goal

pub from_parts-requires : goal.from_parts-requires
from_parts-requires c = subst (AreTables (head_of c.args.pen)) (sym c.requires) (tables_none (head_of c.args.pen) (length c.args.pen.config.chains) refl)
