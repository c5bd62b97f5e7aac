use Rattle.std.proofs.Common.{◌≡◌, ◌<◌, ℕ, List, length, get_or, map, sym, ap, ◌∙◌, arith}
use Rattle.std.proofs.lemmas.Option.{get_or_from_slice_get, slice_get_within}
use Rattle.rb_book.specs.Header.{Header}
use Rattle.rb_book.specs.Book.{Book}
use Rattle.rb_book.specs.Intake.{with_set}
use Rattle.rb_graph.specs.StoredRow.{StoredRow, stored_row_of}
use Rattle.rb_graph.proofs.Inserted.{written-is, undone-none, undone-here, undone-step, undone-all}
use Rattle.rb_graph.proofs.reached.leave_powers.Goals as goal

pub loop-index-init : goal.loop-index-init
loop-index-init g c =
    let b = c.args.book.now in
    c.requires.rows
    ∙ written-is (stored_row_of b) (stored_row_of (with_set b c.args.set.now)) b.headers c.args.count
    ∙ sym (undone-none (stored_row_of b) (stored_row_of (with_set b c.args.set.now)) b.headers c.args.count)

pub loop-index-preserved : goal.loop-index-preserved
loop-index-preserved g c =
    let b = c.args.book.now in
    let new : Book = with_set b c.args.set.now in
    let h : Header = c.header_at.result.now in
    let at = c.loop-index.index in
    let lt : at < length b.headers = slice_get_within b.headers at h c.header_at.ensures.header in
    let here : get_or b.headers at h ≡ h = get_or_from_slice_get b.headers at h h c.header_at.ensures.header in
    (λ i. Rattle.std.proofs.Common.set (c.loop-index.invariant i) at ((c.leave_power.ensures ∙ ap (stored_row_of b) (sym here)) i))
    ∙ undone-step (stored_row_of b) (stored_row_of new) b.headers c.args.count at h lt

pub returns : goal.returns
returns g c =
    let b = c.args.book.now in
    c.loop-index.invariant ∙ undone-all (stored_row_of b) (stored_row_of (with_set b c.args.set.now)) b.headers c.args.count c.loop-index.index (omega arith)

pub leave_power-requires-clause-row : goal.leave_power-requires-clause-row
leave_power-requires-clause-row g c =
    let b = c.args.book.now in
    let new : Book = with_set b c.args.set.now in
    let h : Header = c.header_at.result.now in
    let at = c.loop-index.index in
    let there = c.header_at.ensures.header in
    ap (λ (l : List StoredRow). get_or l at c.index-rows-index.result) c.loop-index.invariant
    ∙ undone-here (stored_row_of b) (stored_row_of new) b.headers c.args.count at h c.index-rows-index.result (slice_get_within b.headers at h there) (omega (arith, c.loop-index-test.true))
    ∙ ap (stored_row_of new) (get_or_from_slice_get b.headers at h h there)
