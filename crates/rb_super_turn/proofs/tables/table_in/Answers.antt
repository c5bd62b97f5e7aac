use Rattle.std.proofs.Common.{◌<◌, length, rules, sym, subst, arith}
use Rattle.rb_super_turn.proofs.Kept.{tables_with}
use Rattle.rb_super_turn.proofs.tables.table_in.Goals as goal

pub index_mut-requires : goal.index_mut-requires
index_mut-requires g c = omega (arith, c.make_room.ensures.places, c.requires.chain, c.make_room.new.tables.ok.0)

pub returns-clause-kept : goal.returns-clause-kept
returns-clause-kept g c = λ core is are.
    tables_with core c.make_room.new.tables.items c.args.chain c.args.book.now _ (subst (λ n. c.args.chain < n) (sym c.make_room.ensures.places) c.requires.chain) is (search rules)
    (c.make_room.ensures.kept core are)
