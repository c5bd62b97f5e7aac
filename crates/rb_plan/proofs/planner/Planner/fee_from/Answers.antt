use Rattle.std.proofs.Common.{◌≡◌, ◌∙◌, ap, List, None, arith, length, map, subst, sym}
use Rattle.std.specs.List.{find, slice_get}
use Rattle.std.specs.List.Sorted.{IsStrictlyIncreasing}
use Rattle.rb_book.specs.Book.{RecordAt, height_of, is_at}
use Rattle.rb_plan.proofs.StepBetween.{fee_found, fee_absent}
use Rattle.rb_plan.proofs.planner.Planner.fee_from.Goals as goal

pub record_place-requires : goal.record_place-requires
record_place-requires g c =
    subst (λ (ks : List RecordAt). IsStrictlyIncreasing (map height_of ks)) (sym c.records.ensures.value) c.records.ensures.view.book.records.heights

pub fee_from-requires : goal.fee_from-requires
fee_from-requires g c =
    let same = c.records.ensures.value ∙ ap (λ b. b.records) (sym c.requires) in
    omega (arith, c.in-Ok.ensures.within, ap (λ (ks : List RecordAt). length ks) same)

pub returns-in-Ok-clause-value : goal.returns-in-Ok-clause-value
returns-in-Ok-clause-value g c =
    let same = c.records.ensures.value ∙ ap (λ b. b.records) (sym c.requires) in
    fee_found c.args.target.now c.args.trusted c.in-Ok.place _ (subst (λ (ks : List RecordAt). find (is_at c.args.trusted) ks ≡ slice_get ks c.in-Ok.place) same c.in-Ok.ensures.found) c.fee_from.ensures.value

pub returns-in-Err-clause-value : goal.returns-in-Err-clause-value
returns-in-Err-clause-value g c =
    let same = c.records.ensures.value ∙ ap (λ b. b.records) (sym c.requires) in
    fee_absent c.args.target.now c.args.trusted (subst (λ (ks : List RecordAt). find (is_at c.args.trusted) ks ≡ None) same c.in-Err.ensures.absent)
