use Rattle.std.proofs.Common.{◌≡◌, ◌∙◌, ap, List, None, subst, IsSomeAnd}
use Rattle.std.specs.List.{find, slice_get}
use Rattle.rb_base.specs.Fee.{Fees}
use Rattle.rb_base.specs.Options.{ClientOptions}
use Rattle.rb_base.specs.Window.{Span}
use Rattle.rb_book.specs.Book.{Book, RecordAt, is_at}
use Rattle.rb_graph.specs.StepTable.{Target, IsStepFee}
use Rattle.rb_plan.proofs.StepBetween.{fee_found, fee_absent}
use Rattle.rb_explain_plan.specs.Search.{target_of}
use Rattle.rb_explain_plan.proofs.bisecting.fee_from.Goals as goal

pub returns-in-Ok : goal.returns-in-Ok
returns-in-Ok g c =
    let v = c.args.view.now in
    let h = c.args.height in
    let r = c.target-target.result in
    let same : r ≡ target_of v h =
    subst (λ (f : Fees). r ≡ record { book = v.book; options = v.options; window = v.window; fees = f; height = h }) c.fees.ensures
    (subst (λ (w : Span). r ≡ record { book = v.book; options = v.options; window = w; fees = c.fees.result; height = h }) c.window.ensures
    (subst (λ (o : ClientOptions). r ≡ record { book = v.book; options = o; window = c.window.result; fees = c.fees.result; height = h }) c.options.ensures
    (subst (λ (b : Book). r ≡ record { book = b; options = c.options.result; window = c.window.result; fees = c.fees.result; height = h }) c.requires c.target-target.ensures))) in
    let records = c.records.ensures.value ∙ ap (λ (b : Book). b.records) c.book.ensures.value in
    fee_found (target_of v h) c.args.trusted c.in-Ok.place _
    (subst (λ (ks : List RecordAt). find (is_at c.args.trusted) ks ≡ slice_get ks c.in-Ok.place) records c.in-Ok.ensures.found)
    (subst (λ (x : Target). IsSomeAnd (slice_get x.book.records c.in-Ok.place) (λ k. IsStepFee x k.height c.fee_from.result)) same c.fee_from.ensures.value)

pub returns-in-Err : goal.returns-in-Err
returns-in-Err g c =
    let records = c.records.ensures.value ∙ ap (λ (b : Book). b.records) c.book.ensures.value in
    fee_absent (target_of c.args.view.now c.args.height) c.args.trusted (subst (λ (ks : List RecordAt). find (is_at c.args.trusted) ks ≡ None) records c.in-Err.ensures.absent)
