use Rattle.std.proofs.Common.{sym, subst}
use Rattle.rb_plan.specs.Offers.{IsTakenIn}
use Rattle.rb_plan.proofs.Serving.{taken_insert}
use Rattle.rb_plan.proofs.planner.Planner.put_in.Goals as goal

pub returns : goal.returns
returns g c =
    subst (IsTakenIn c.args.self.now.book c.args.offers.now.items c.args.offer) (sym c.in_ok-insert.ensures.items) (taken_insert c.args.self.now.book c.args.offers.now.items c.args.offer c.place_for-at.result)
