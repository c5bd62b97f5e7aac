use Rattle.std.proofs.Common.{◌≡◌, Some, sym, subst}
use Rattle.std.specs.Slice.{IsItemAt}
use Rattle.rb_step.specs.View.{client_of}
use Rattle.rb_plan.specs.declared.offers.Offer.{Offer}
use Rattle.rb_plan.proofs.Cheapening.{lowered_reached}
use Rattle.rb_plan.proofs.planner.Planner.step_at.Goals as goal

pub returns-in-Some : goal.returns-in-Some
returns-in-Some g c = λ label drawn.
    let o = c.in-Some.offer.now in
    let at : IsItemAt c.args.offers.now c.args.at (Some c.in-Some.offer) = c.in-Some.ensures.lookup in
    let is : label o.label.height ≡ Some o.label.cost = subst (λ (x : Offer). label x.label.height ≡ Some x.label.cost) (sym at.1) (drawn c.args.at o at.3.0) in
    lowered_reached (client_of c.args.self.now) label c.args.target.now.height o is c.with_step.result (c.with_step.ensures label is)
