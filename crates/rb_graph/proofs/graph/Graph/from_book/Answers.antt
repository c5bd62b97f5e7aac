use Rattle.std.proofs.Common.{length, subst, arith}
use Rattle.rb_book.specs.Book.{Book}
use Rattle.rb_graph.specs.declared.error.TableError.{TableError}
use Rattle.rb_graph.specs.TableError.{Explains}
use Rattle.rb_graph.proofs.graph.Graph.from_book.Goals as goal

pub unreachable-requires : goal.unreachable-requires
unreachable-requires g c =
    let b : Book = c.in_ok-frame.frame in
    let why = subst (λ (x : TableError). Explains (length b.headers) c.in_ok-rows.rows.items x) c.in-Err-default-default-RowTwice.field-0-2-is c.in-Err-default-default-RowTwice.ensures.cause in
    absurd (omega (arith, why.1.twice, c.in_ok-rows.ensures.whole c.in-Err-default-default-RowTwice.field-0-2-0 why.0))

pub unreachable-requires-in-Err-default-default-RowMissing : goal.unreachable-requires-in-Err-default-default-RowMissing
unreachable-requires-in-Err-default-default-RowMissing g c =
    let b : Book = c.in_ok-frame.frame in
    let why = subst (λ (x : TableError). Explains (length b.headers) c.in_ok-rows.rows.items x) c.in-Err-default-default-RowMissing.field-0-2-is c.in-Err-default-default-RowMissing.ensures.cause in
    absurd (omega (arith, why.missing, c.in_ok-rows.ensures.whole c.in-Err-default-default-RowMissing.field-0-2-0 why.within))
