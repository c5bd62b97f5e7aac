use Rattle.std.proofs.Common.{◌≡◌, ◌∙◌, ap, Some, slice_get}
use Rattle.rb_book.specs.Book.{Book}
use Rattle.rb_plan_types.specs.Labelling.{label_of}
use Rattle.rb_cert.proofs.LookedUp.{one_more, all_looked_up}
use Rattle.rb_cert.proofs.Rising.{element_of, past_end}
use Rattle.rb_cert.proofs.trusted.look_up_all.Goals as goal

pub loop-place-preserved : goal.loop-place-preserved
loop-place-preserved g c =
    let v = c.args.view.now in
    let same : c.records-known-items.result.now ≡ v.book.records = c.records-known-items.ensures.value ∙ ap (λ (b : Book). b.records) c.book.ensures.value in
    let at : slice_get v.book.records c.loop-place.place ≡ Some c.known-item.result = element_of _ _ _ _ same c.loop-place-test.true c.known-item.is in
    one_more v (label_of c.args.labelling.now) c.loop-place.found c.loop-place.place c.known-item.result c.look_up.result at c.look_up.ensures c.loop-place.invariant

pub returns : goal.returns
returns g c =
    let v = c.args.view.now in
    let same : c.records-known-items.result.now ≡ v.book.records = c.records-known-items.ensures.value ∙ ap (λ (b : Book). b.records) c.book.ensures.value in
    all_looked_up v (label_of c.args.labelling.now) c.loop-place.found c.loop-place.place (past_end _ _ _ same c.loop-place-test.false) c.loop-place.invariant
