use Rattle.std.proofs.Common.{Some, subst}
use Rattle.rb_base.specs.declared.ties.Ties.{Ties}
use Rattle.rb_step.specs.View.{client_of}
use Rattle.rb_plan_types.specs.Labelling.{label_of}
use Rattle.rb_plan.specs.Walk.{IsFirstOfGoal}
use Rattle.rb_plan.proofs.Walks.{least_from_walk}
use Rattle.rb_plan.proofs.planner.Planner.plan_by.Goals as goal

pub returns-clause-answers : goal.returns-clause-answers
returns-clause-answers g c =
    let exact = c.requires in
    let walked = c.in_ok-updates in
    let label = label_of c.args.labelling in
    let client = client_of c.args.self.now in
    let first : IsFirstOfGoal client.ties label c.args.goal (Some c.in-Some.last) = subst (λ (x : Ties). IsFirstOfGoal x label c.args.goal (Some c.in-Some.last)) c.ties.ensures c.in-Some.ensures in
    (exact, least_from_walk client label walked.ensures.orderly exact c.args.goal c.in-Some.last walked.updates.items first walked.ensures.walk)
