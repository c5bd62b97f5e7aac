use Rattle.std.proofs.Common.{◌∙◌, ◌↔◌, ℕ, List, IsTrue, get_or, ap, subst}
use Rattle.std.specs.List.{Contains}
use Rattle.rb_book.specs.Book.{RecordAt}
use Rattle.rb_step.specs.View.{client_of}
use Rattle.rb_plan.proofs.Serving.{source_read, no_source_read}
use Rattle.rb_plan.proofs.planner.Planner.is_source_at.Goals as goal

pub returns-then-outlives : goal.returns-then-outlives
returns-then-outlives g c =
    let v = c.args.self.now in
    let k = c.index-records-place.result in
    let same = c.records-records.ensures.value in
    source_read v c.records-records.ensures.view c.args.place k c.requires (c.index-records-place.is ∙ ap (λ (xs : List RecordAt). get_or xs c.args.place k) same) c.record.result.now c.record.ensures
    c.outlives.result c.outlives.ensures c.if-outlives.true c.is_stored.result
    (subst (λ (h : ℕ). IsTrue c.is_stored.result ↔ Contains (client_of v).stored h) c.height.ensures c.is_stored.ensures)

pub returns-else-outlives : goal.returns-else-outlives
returns-else-outlives g c =
    let v = c.args.self.now in
    let k = c.index-records-place.result in
    let same = c.records-records.ensures.value in
    no_source_read v c.records-records.ensures.view c.args.place k c.requires (c.index-records-place.is ∙ ap (λ (xs : List RecordAt). get_or xs c.args.place k) same) c.record.result.now c.record.ensures
    c.outlives.result c.outlives.ensures c.if-outlives.false
