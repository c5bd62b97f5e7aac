use Rattle.std.proofs.Common.{ℕ, List, sym, subst}
use Rattle.rb_plan_client.specs.Task.{Message}
use Rattle.rb_super_turn.specs.Phases.{standing_in, IsReportedOf}
use Rattle.rb_super_turn.specs.Report.{held}
use Rattle.rb_super_turn.specs.Views.{outcome_view}
use Rattle.rb_super_turn.proofs.Plans.{held_reported, reported_by_id}
use Rattle.rb_super_turn.proofs.planning.plan_client.Goals as goal

pub returns-in-Some-clause-report : goal.returns-in-Some-clause-report
returns-in-Some-clause-report g c =
    let core = c.args.relayer.now in
    let config = c.config_of-config.result in
    subst (λ (p : ℕ × List Message). IsReportedOf (standing_in core) (standing_in core) c.args.client (record { id = config.id; outcome = held p.0; too_big = p.1 }))
    (λ i. (sym c.number.ensures i, sym c.new.ensures.items i))
    (held_reported core c.args.client config c.in-Some.batch.now c.requires.client c.config_of-config.ensures.value c.requires.ready c.in-Some.ensures)

pub returns-clause-report : goal.returns-clause-report
returns-clause-report g c =
    reported_by_id c.args.relayer.now (standing_in c.plan_open.new.relayer) c.args.client c.config_of-config.result (outcome_view c.in_ok-came.came.outcome) c.in_ok-came.came.too_big.items c.requires.client
    c.config_of-config.ensures.value c.in_ok-came.ensures.report
