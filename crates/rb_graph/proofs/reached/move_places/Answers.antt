use Rattle.std.proofs.Common.{◌≡◌, ◌<◌, ◌≤◌, ℕ, List, Option, length, get_or, sym, ap, ◌∙◌, arith}
use Rattle.rb_book.specs.Book.{Book, RecordAt}
use Rattle.rb_book.specs.Intake.{with_set}
use Rattle.rb_graph.specs.StoredRow.{next_place}
use Rattle.rb_graph.proofs.Inserted.{written-none, written-here, written-step, written-all}
use Rattle.rb_graph.proofs.reached.move_places.Goals as goal

pub loop-index-init : goal.loop-index-init
loop-index-init g c =
    let b = c.args.book.now in
    c.requires.places ∙ sym (written-none (next_place b) (next_place (with_set b c.args.set.now)) b.records)

pub next_with-requires-clause-next : goal.next_with-requires-clause-next
next_with-requires-clause-next g c =
    let b = c.args.book.now in
    let new : Book = with_set b c.args.set.now in
    let k : RecordAt = c.known-item.result in
    let at = c.loop-index.index in
    let records = c.records-known-items.ensures.value in
    let lt : at < length b.records = omega (arith, c.loop-index-test.true, ap (λ (l : List RecordAt). length l) records) in
    let there : k ≡ get_or b.records at k = c.known-item.is ∙ ap (λ (l : List RecordAt). get_or l at k) records in
    c.index.ensures
    ∙ ap (λ (l : List (Option ℕ)). get_or l at c.index.result.now) c.loop-index.invariant
    ∙ written-here (next_place b) (next_place new) b.records at k c.index.result.now lt
    ∙ ap (next_place b) (sym there)

pub loop-index-preserved : goal.loop-index-preserved
loop-index-preserved g c =
    let b = c.args.book.now in
    let new : Book = with_set b c.args.set.now in
    let k : RecordAt = c.known-item.result in
    let at = c.loop-index.index in
    let records = c.records-known-items.ensures.value in
    let lt : at < length b.records = omega (arith, c.loop-index-test.true, ap (λ (l : List RecordAt). length l) records) in
    let there : k ≡ get_or b.records at k = c.known-item.is ∙ ap (λ (l : List RecordAt). get_or l at k) records in
    (λ i. Rattle.std.proofs.Common.set (c.loop-index.invariant i) at ((c.next_with.ensures ∙ ap (next_place new) there) i))
    ∙ written-step (next_place b) (next_place new) b.records at k lt

pub returns : goal.returns
returns g c =
    let b = c.args.book.now in
    let records = c.records-known-items.ensures.value in
    c.loop-index.invariant
    ∙ written-all (next_place b) (next_place (with_set b c.args.set.now)) b.records c.loop-index.index
    (omega (arith, c.loop-index-test.false, ap (λ (l : List RecordAt). length l) records))
