use Rattle.std.proofs.Common.{All, subst, sym, arith}
use Rattle.std.proofs.lemmas.List.Elements.{All-push}
use Rattle.rb_book.specs.Book.{Book}
use Rattle.rb_graph.specs.Frame.{IsRowOf}
use Rattle.rb_graph.proofs.Finishing.{made_one_more}
use Rattle.rb_graph.proofs.frame.Frame.all_rows.Goals as goal

pub loop-n-preserved : goal.loop-n-preserved
loop-n-preserved g c =
    let b : Book = c.args.self.now in
    let items = c.in_ok-push.ensures.items in
    let row = c.in_ok-row.field-0 in
    record {
      right = subst (All (IsRowOf b)) (sym items) (All-push (IsRowOf b) c.loop-n.rows.items row c.loop-n.invariant.right c.in_ok-row.ensures.row);
      each = made_one_more c.loop-n.n c.loop-n.rows.items c.push.new.self.items row c.in_ok-row.ensures.number items c.loop-n.invariant.each;
    }

pub returns-clause-whole : goal.returns-clause-whole
returns-clause-whole g c = λ n lt. c.loop-n.invariant.each.0 n (omega (arith, lt, c.rows-n-end.ensures, c.loop-n-test.false))
