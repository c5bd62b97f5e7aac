use Rattle.std.proofs.Common.{sym, subst}
use Rattle.rb_super_turn.specs.Views.{outcome_view}
use Rattle.rb_super_turn.specs.declared.report.Outcome.{Outcome}
use Rattle.rb_explain.specs.Client.{IsReachFor, IsRight}
use Rattle.rb_explain.proofs.Reasons.{reach_planned}
use Rattle.rb_explain.proofs.client.reach_for.Goals as goal

pub returns-in-Planned : goal.returns-in-Planned
returns-in-Planned g c =
    let t = c.args.job.now.task in
    let top = c.top_reachable.result in
    subst (λ (o : Outcome _). IsReachFor t (outcome_view o) top) (sym c.in-Planned.is)
    (reach_planned t c.in-Planned.planned top (subst (λ (o : Outcome _). IsRight t (outcome_view o)) c.in-Planned.is c.requires.right) c.top_reachable.ensures.labelled c.top_reachable.ensures.greatest)
