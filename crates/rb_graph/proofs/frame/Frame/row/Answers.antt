use Rattle.std.proofs.Common.{◌≡◌, Some, slice_get, subst, sym, ap, ◌∙◌}
use Rattle.rb_book.specs.Book.{Book}
use Rattle.rb_graph.specs.StoredRow.{stored_row_of}
use Rattle.rb_graph.specs.Frame.{FrameRow, kept_rows}
use Rattle.rb_graph.proofs.Finishing.{row_there}
use Rattle.rb_graph.proofs.frame.Frame.row.Goals as goal

pub returns-clause-row : goal.returns-clause-row
returns-clause-row g c =
    let b : Book = c.args.self.now in
    subst (λ (r : FrameRow). slice_get (kept_rows b) r.number ≡ Some r.kept) (sym c.new.ensures)
    (row_there b c.args.n c.header.result.now c.in_ok-kept.kept c.header.ensures.header (c.in_ok-kept.ensures ∙ ap (λ (t : Book). stored_row_of t c.header.result.now) c.self.view_is))
