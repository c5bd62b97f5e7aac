use Rattle.rb_super_turn.proofs.Kept.{as_many, tables_let_go}
use Rattle.rb_super_turn.proofs.tables.make_room.Goals as goal

pub returns-clause-places : goal.returns-clause-places
returns-clause-places g c = as_many c.args.tables.now.items c.as_slice-kept.result.now _ c.as_slice-kept.ensures.value c.in_ok-none.ensures

pub returns-clause-kept : goal.returns-clause-kept
returns-clause-kept g c = λ core are. tables_let_go core c.args.tables.now.items c.as_slice-kept.result.now _ c.as_slice-kept.ensures.value c.in_ok-none.ensures are
