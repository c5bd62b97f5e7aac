use Rattle.std.proofs.Common.{ap}
use Rattle.rb_plan_client.specs.Draft.{Job}
use Rattle.rb_super_turn.proofs.Prices.{answer_right}
use Rattle.rb_super_turn.proofs.outcome.outcome_of.Goals as goal

pub planned_of-requires : goal.planned_of-requires
planned_of-requires g c =
    answer_right c.args.draft.now c.in-Some.answer.now c.job.result.now.task c.in-Some.ensures.right c.in-Some.ensures.value (ap (λ (j : Job). j.task) c.job.ensures)
