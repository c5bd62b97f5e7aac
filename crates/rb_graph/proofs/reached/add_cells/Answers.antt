use Rattle.std.proofs.Common.{◌≡◌, ◌<◌, ℕ, List, length, get_or, map, sym, ap, ◌∙◌, arith}
use Rattle.std.proofs.lemmas.Option.{get_or_from_slice_get, slice_get_within}
use Rattle.rb_book.specs.Header.{Header}
use Rattle.rb_book.specs.Book.{Book}
use Rattle.rb_book.specs.Intake.{with_record}
use Rattle.rb_graph.specs.StoredRow.{StoredRow, stored_row_of}
use Rattle.rb_graph.proofs.Inserted.{written-none, written-here, written-step, written-all, length-written}
use Rattle.rb_graph.proofs.reached.add_cells.Goals as goal

pub loop-place-init : goal.loop-place-init
loop-place-init g c =
    let b = c.args.book.now in
    c.requires.rows ∙ sym (written-none (stored_row_of b) (stored_row_of (with_record b c.args.height c.args.entry.now)) b.headers)

pub header_at-requires : goal.header_at-requires
header_at-requires g c =
    let b = c.args.book.now in
    omega (arith, c.loop-place-test.true, ap (λ (l : List StoredRow). length l) c.loop-place.invariant, length-written (stored_row_of b) (stored_row_of (with_record b c.args.height c.args.entry.now)) b.headers c.loop-place.place)

pub loop-place-preserved : goal.loop-place-preserved
loop-place-preserved g c =
    let b = c.args.book.now in
    let new : Book = with_record b c.args.height c.args.entry.now in
    let h : Header = c.header_at.result.now in
    let at = c.loop-place.place in
    let lt : at < length b.headers = omega (arith, c.loop-place-test.true, ap (λ (l : List StoredRow). length l) c.loop-place.invariant, length-written (stored_row_of b) (stored_row_of new) b.headers at) in
    let here : get_or b.headers at h ≡ h = get_or_from_slice_get b.headers at h h c.header_at.ensures.header in
    (λ i. Rattle.std.proofs.Common.set (c.loop-place.invariant i) at ((c.add_cell.ensures ∙ ap (stored_row_of new) (sym here)) i))
    ∙ written-step (stored_row_of b) (stored_row_of new) b.headers at h lt

pub returns : goal.returns
returns g c =
    let b = c.args.book.now in
    let new : Book = with_record b c.args.height c.args.entry.now in
    c.loop-place.invariant
    ∙ written-all (stored_row_of b) (stored_row_of new) b.headers c.loop-place.place
    (omega (arith, c.loop-place-test.false, ap (λ (l : List StoredRow). length l) c.loop-place.invariant, length-written (stored_row_of b) (stored_row_of new) b.headers c.loop-place.place))

pub add_cell-requires-clause-row : goal.add_cell-requires-clause-row
add_cell-requires-clause-row g c =
    let b = c.args.book.now in
    let new : Book = with_record b c.args.height c.args.entry.now in
    let h : Header = c.header_at.result.now in
    let at = c.loop-place.place in
    let there = c.header_at.ensures.header in
    ap (λ (l : List StoredRow). get_or l at c.index-rows-place.result) c.loop-place.invariant
    ∙ written-here (stored_row_of b) (stored_row_of new) b.headers at h c.index-rows-place.result (slice_get_within b.headers at h there)
    ∙ ap (stored_row_of b) (get_or_from_slice_get b.headers at h h there)
