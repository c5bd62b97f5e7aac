use Rattle.std.proofs.Common.{IfSome, ◌∙◌, length, sym, ap, subst, arith}
use Rattle.std.specs.List.{slice_get}
use Rattle.rb_core.specs.Core.{Core}
use Rattle.rb_core_model.specs.Standing.{book_at}
use Rattle.rb_super_turn.specs.Phases.{standing_in}
use Rattle.rb_super_turn.specs.Tables.{IsTableOf}
use Rattle.rb_super_turn.proofs.relayer.Relayer.table.Goals as goal

pub table_in-requires-clause-chain : goal.table_in-requires-clause-chain
table_in-requires-clause-chain g c = λ ks _.
    let places = c.self.invariant.places in
    let config = ap (λ (k : Core). length k.config.chains) c.self.view_is in
    let lt = c.requires.chain in
    omega arith

pub table_in-requires-clause-right : goal.table_in-requires-clause-right
table_in-requires-clause-right g c = λ ks _.
    let book = ap (λ (k : Core). book_at (standing_in k).books c.args.chain) c.self.view_is ∙ sym c.requires.book in
    subst (λ b. IfSome (slice_get c.self.inside.tables.items c.args.chain) (IsTableOf b)) book (c.self.invariant.right c.args.chain)

pub invariant_of-self : goal.invariant_of-self
invariant_of-self g c =
    c.table_in.ensures.kept (g.M.Machine.seen_as c.self.inside.machine) (c.requires.book ∙ sym (ap (λ (k : Core). book_at (standing_in k).books c.args.chain) c.self.view_is)) c.self.invariant
