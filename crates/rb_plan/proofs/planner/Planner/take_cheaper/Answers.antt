use Rattle.std.proofs.Common.{◌↔◌, sym, ◌∙◌, ap, subst, arith, List, IsTrue, length}
use Rattle.std.proofs.lemmas.Bool.{false≢true}
use Rattle.rb_plan.specs.declared.offers.Offer.{Offer}
use Rattle.rb_plan.specs.Offers.{NamesSame}
use Rattle.rb_plan_types.specs.Order.{IsCheaper}
use Rattle.std.specs.Prelude.{IsSomeAnd}
use Rattle.std.specs.List.{slice_get}
use Rattle.rb_plan.proofs.Serving.{at_inside, both_at, taken_keep, taken_set}
use Rattle.rb_plan.proofs.planner.Planner.take_cheaper.Goals as goal

pub is_cheaper-requires : goal.is_cheaper-requires
is_cheaper-requires g c =
    let inside = at_inside c.args.offers.now.items c.args.at _ c.requires in
    omega (arith, inside, ap (λ (ys : List Offer). length ys) c.as_slice.ensures.value)

pub index_mut-requires : goal.index_mut-requires
index_mut-requires g c =
    let inside = at_inside c.args.offers.now.items c.args.at _ c.requires in
    omega (arith, inside)

pub returns-then-is_cheaper : goal.returns-then-is_cheaper
returns-then-is_cheaper g c =
    let b = c.args.self.now.book in
    let xs = c.args.offers.now.items in
    let at = c.args.at in
    let new = c.args.offer in
    let tells : IsSomeAnd (slice_get xs at) (λ o. IsTrue c.is_cheaper.result ↔ IsCheaper new.label.cost o.label.cost) = subst (λ (ys : List Offer). IsSomeAnd (slice_get ys at) (λ o. IsTrue c.is_cheaper.result ↔ IsCheaper new.label.cost o.label.cost)) c.as_slice.ensures.value c.is_cheaper.ensures in
    let (o, is, same, cheap) = both_at xs at (λ o. NamesSame b o.place new.place × NamesSame b new.place o.place) (λ o. IsTrue c.is_cheaper.result ↔ IsCheaper new.label.cost o.label.cost) c.requires tells in
    taken_set b xs new at o is same.1 (cheap.0 c.if-is_cheaper.true)

pub returns-else-is_cheaper : goal.returns-else-is_cheaper
returns-else-is_cheaper g c =
    let b = c.args.self.now.book in
    let xs = c.args.offers.now.items in
    let at = c.args.at in
    let new = c.args.offer in
    let tells : IsSomeAnd (slice_get xs at) (λ o. IsTrue c.is_cheaper.result ↔ IsCheaper new.label.cost o.label.cost) = subst (λ (ys : List Offer). IsSomeAnd (slice_get ys at) (λ o. IsTrue c.is_cheaper.result ↔ IsCheaper new.label.cost o.label.cost)) c.as_slice.ensures.value c.is_cheaper.ensures in
    let (o, is, same, cheap) = both_at xs at (λ o. NamesSame b o.place new.place × NamesSame b new.place o.place) (λ o. IsTrue c.is_cheaper.result ↔ IsCheaper new.label.cost o.label.cost) c.requires tells in
    taken_keep b xs new at o is same.0 (λ less. false≢true (sym c.if-is_cheaper.false ∙ cheap.1 less))
