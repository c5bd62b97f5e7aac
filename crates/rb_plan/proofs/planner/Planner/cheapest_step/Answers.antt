use Rattle.std.proofs.Common.{◌≡◌, sym, subst, arith, Some, ℕ, length}
use Rattle.rb_step.specs.View.{client_of}
use Rattle.rb_plan.specs.declared.offers.Offer.{Offer}
use Rattle.rb_plan.proofs.Cheapening.{IsCheapestOf, cheapest_first, cheapest_with, cheapest_all}
use Rattle.rb_plan.proofs.planner.Planner.cheapest_step.Goals as goal

pub loop-offer-init : goal.loop-offer-init
loop-offer-init g c = λ label drawn. cheapest_first (client_of c.args.self.now) label c.args.target.now.height c.args.offers.now c.step_at-best.result (c.step_at-best.ensures label drawn)

pub loop-offer-preserved : goal.loop-offer-preserved
loop-offer-preserved g c = λ label drawn.
    let n = c.loop-offer.offer-index in
    let o = c.offer-item.result in
    let is : label o.label.height ≡ Some o.label.cost = subst (λ (x : Offer). label x.label.height ≡ Some x.label.cost) (sym c.offer-item.is) (drawn n o c.loop-offer-test.true) in
    cheapest_with (client_of c.args.self.now) label c.args.target.now.height c.args.offers.now n c.loop-offer.best c.with_step-best.result o c.loop-offer-test.true c.offer-item.is
    (c.with_step-best.ensures label is) (c.loop-offer.invariant label drawn)

pub returns : goal.returns
returns g c = λ label drawn enough.
    let h = c.args.target.now.height in
    let end : c.loop-offer.offer-index ≡ length c.args.offers.now = omega (arith, c.loop-offer.auto.offer-index-end, c.loop-offer-test.false) in
    cheapest_all (client_of c.args.self.now) label h c.args.offers.now c.loop-offer.best drawn enough
    (subst (λ (n : ℕ). IsCheapestOf (client_of c.args.self.now) label h c.args.offers.now n c.loop-offer.best) end (c.loop-offer.invariant label drawn))
