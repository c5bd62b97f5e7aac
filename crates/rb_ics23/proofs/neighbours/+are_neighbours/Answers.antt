use Rattle.rb_ics23.proofs.LastSteps.{none_left, none_right, by_same, by_parting}
use Rattle.rb_ics23.proofs.neighbours.+are_neighbours.Goals as goal

pub returns-in_default : goal.returns-in_default
returns-in_default t c = none_left _ _ _ c.in_default.ensures.cases

pub returns-in_default-split_last : goal.returns-in_default-split_last
returns-in_default-split_last t c = none_right _ _ _ c.in_default-split_last.ensures.cases

pub returns-then-same_step : goal.returns-then-same_step
returns-then-same_step t c =
    by_same c.args.spec c.in-Some.l.now c.in-Some-split_last.r.now c.in-Some.left.now c.in-Some-split_last.right.now
    c.args.left.now c.args.right.now c.same_step.result c.are_neighbours.result c.in-Some.ensures.cases.0
    c.in-Some-split_last.ensures.cases.0 c.if-same_step.true c.same_step.ensures c.are_neighbours.ensures

pub returns : goal.returns
returns t c =
    by_parting c.args.spec c.in-Some.l.now c.in-Some-split_last.r.now c.in-Some.left.now c.in-Some-split_last.right.now
    c.args.left.now c.args.right.now c.same_step.result c.are_apart.result c.in-Some.ensures.cases.0
    c.in-Some-split_last.ensures.cases.0 c.if-same_step.false c.same_step.ensures c.are_apart.ensures
