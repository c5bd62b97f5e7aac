use Rattle.std.proofs.Common.{Some, ◌∙◌, sym, ap}
use Rattle.rb_plan_client.specs.Draft.{Job}
use Rattle.rb_super_turn.proofs.planning.planned_for.Goals as goal

pub returns-clause-view : goal.returns-clause-view
returns-clause-view g c = c.in_ok-job.ensures ∙ ap (λ (j : Job). Some j) (sym c.in_ok-draft.ensures.job)
