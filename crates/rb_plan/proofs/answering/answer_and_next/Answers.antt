use Rattle.std.proofs.Common.{subst}
use Rattle.rb_plan_types.specs.Labelling.{IsExact, label_of}
use Rattle.rb_step.specs.View.{View, client_of}
use Rattle.rb_plan_client.specs.Task.{view_of}
use Rattle.rb_plan.proofs.RightAnswers.{answer_right, reach_from_top}
use Rattle.rb_plan.proofs.answering.answer_and_next.Goals as goal

pub returns : goal.returns
returns g c =
    let t = c.args.job.now.task in
    let top = c.top_reachable-reach.result in
    let labelling = c.in_ok-labelling.labelling in
    let exact = subst (λ (v : View). IsExact (client_of v) (label_of labelling)) c.view.ensures c.in_ok-labelling.ensures.exact in
    let reach = reach_from_top (client_of (view_of t)) labelling top exact c.top_reachable-reach.ensures.labelled c.top_reachable-reach.ensures.greatest in
    let next = c.in_ok-next.ensures in (
      answer_right t top c.goal_of-goal.result c.in_ok-outcome.outcome reach c.goal_of-goal.ensures c.in_ok-outcome.ensures,
      record { reach = top; is_reach = reach; proof = next.proof; is_proof = next.is_proof; is = next.is },
    )
