use Rattle.std.proofs.Common.{◌≡◌, sym, ◌∙◌, ap, List, ℕ, arith, Some, get_or}
use Rattle.std.specs.List.{slice_get}
use Rattle.std.specs.Str.{bytes_eq}
use Rattle.std.proofs.lemmas.Option.{get_or_from_slice_get}
use Rattle.rb_book.specs.Book.{RecordAt}
use Rattle.rb_plan.proofs.Serving.{same_bytes}
use Rattle.rb_plan.proofs.planner.Planner.names_same.Goals as goal

pub returns : goal.returns
returns g c =
    let b = c.args.self.now.book in
    let p = c.index-records-place.result in
    let q = c.index-records-other.result in
    let p-is : p ≡ get_or b.records c.args.place p = c.index-records-place.is ∙ ap (λ (xs : List RecordAt). get_or xs c.args.place p) c.records-records.ensures.value in
    let q-is : q ≡ get_or b.records c.args.other q = c.index-records-other.is ∙ ap (λ (xs : List RecordAt). get_or xs c.args.other q) c.records-records.ensures.value in
    let a : c.next.result.now ≡ p.record_of.next = c.next.ensures ∙ ap (λ r. r.next) c.record.ensures in
    let d : c.next-2.result.now ≡ q.record_of.next = c.next-2.ensures ∙ ap (λ r. r.next) c.record-2.ensures in
    λ same.
    let e : p.record_of.next ≡ q.record_of.next = sym a ∙ same_bytes c.next.result.now c.next-2.result.now (sym c.eq.ensures ∙ same) ∙ d in (
      λ k l k-at l-at.
          ap (λ (x : RecordAt). x.record_of.next) (sym (p-is ∙ get_or_from_slice_get b.records c.args.place k p k-at)) ∙ e
          ∙ ap (λ (x : RecordAt). x.record_of.next) (q-is ∙ get_or_from_slice_get b.records c.args.other l q l-at),
      λ k l k-at l-at.
          ap (λ (x : RecordAt). x.record_of.next) (sym (q-is ∙ get_or_from_slice_get b.records c.args.other k q k-at)) ∙ sym e
          ∙ ap (λ (x : RecordAt). x.record_of.next) (p-is ∙ get_or_from_slice_get b.records c.args.place l p l-at),
    )
