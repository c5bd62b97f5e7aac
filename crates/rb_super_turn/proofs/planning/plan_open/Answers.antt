use Rattle.std.proofs.Common.{◌≡◌, ◌<◌, ◌≤◌, ◌+◌, IfOk, length, sym, ap, ◌∙◌, subst}
use Rattle.std.proofs.lemmas.Result.{on_ok_weaker}
use Rattle.rb_script_types.specs.Config.{Config}
use Rattle.rb_core_model.specs.Machine.{State}
use Rattle.rb_core_model.specs.Limits.{max_events}
use Rattle.rb_core_model.specs.Standing.{Standing, batch_open}
use Rattle.rb_super_turn.specs.Phases.{standing_in, IsOutcomeOf}
use Rattle.rb_super_turn.specs.Views.{outcome_view}
use Rattle.rb_super_turn.proofs.Steps.{later_from}
use Rattle.rb_super_turn.proofs.planning.plan_open.Goals as goal

pub returns-in-Some-clause-report : goal.returns-in-Some-clause-report
returns-in-Some-clause-report g c = c.in_ok-came.ensures.report c.in-Some.came c.in-Some.is

pub plan_here-requires-clause-client : goal.plan_here-requires-clause-client
plan_here-requires-clause-client g c = λ ks _. subst (λ (k : Config). c.args.client < length k.clients) (sym c.in_ok-came.ensures.later.config) c.requires.client

pub plan_here-requires-clause-none_open : goal.plan_here-requires-clause-none_open
plan_here-requires-clause-none_open g c = λ ks _. ap (λ (s : State). batch_open s.standing c.args.client) (c.in_ok-came.ensures.nothing c.in-None.is) ∙ c.requires.none_open

pub plan_here-requires-clause-room : goal.plan_here-requires-clause-room
plan_here-requires-clause-room g c = λ ks _. subst (λ (s : State). s.front + 1 ≤ max_events) (sym (c.in_ok-came.ensures.nothing c.in-None.is)) c.requires.room

pub returns-in-None-clause-report : goal.returns-in-None-clause-report
returns-in-None-clause-report g c =
    let new = standing_in c.plan_here.new.relayer in
    subst (λ (s : Standing). IfOk c.plan_here.result (λ came. IsOutcomeOf s new c.args.client (outcome_view came.outcome) came.too_big.items))
    (ap (λ (s : State). s.standing) (c.in_ok-came.ensures.nothing c.in-None.is)) c.plan_here.ensures.report

pub returns-in-None-clause-later : goal.returns-in-None-clause-later
returns-in-None-clause-later g c =
    on_ok_weaker c.plan_here.result
    (later_from 1 c.args.relayer.now c.plan_found.new.relayer c.plan_here.new.relayer c.in_ok-came.ensures.later.config (c.in_ok-came.ensures.nothing c.in-None.is))
    c.plan_here.ensures.later
