use Rattle.std.proofs.Common.{◌≡◌, ◌≤◌, ◌+◌, ◌++◌, [], ◌∷◌, List, map, take, length, sym, ap, ◌∙◌, subst, arith}
use Rattle.std.proofs.lemmas.Iterator.Adapters.{YieldsList-from_vec}
use Rattle.std.proofs.lemmas.Iterator.Consumers.{YieldsList-turn, YieldsList-end}
use Rattle.std.proofs.lemmas.List.{length-append, take_all, map-append}
use Rattle.std.proofs.lemmas.List.Elements.{All-get_or}
use Rattle.std.proofs.lemmas.List.Sums.{sum_by_more, sum_by_more_le}
use Rattle.std.specs.List.{sum_by}
use Rattle.rb_core.specs.Core.{state_in}
use Rattle.rb_script_types.specs.Config.{Config}
use Rattle.rb_super_turn.specs.Judging.{Leads}
use Rattle.rb_super_turn.specs.Phases.{standing_in}
use Rattle.rb_super_turn.specs.Report.{Report}
use Rattle.rb_super_turn.specs.Script.{Turn}
use Rattle.rb_super_turn.specs.Turns.{AreTurnReports}
use Rattle.rb_super_turn.specs.AsEvents.{code_turn_as_events, IsTurnFor, most_events}
use Rattle.rb_super_turn.specs.Views.{turn_report_view}
use Rattle.rb_super_turn.proofs.Loops.{seen_more}
use Rattle.rb_super_turn.proofs.Runs.{Reach, reach_more, reach_reports, reach_leads}
use Rattle.rb_super.proofs.run.run_turns.Goals as goal

pub turn-requires-clause-turn : goal.turn-requires-clause-turn
turn-requires-clause-turn g c = λ ks _.
    let k0 = c.args.supervisor.config in
    let items = c.args.turns.items in
    let x = c.in-Some.turn in
    let road = YieldsList-from_vec {s = c.into_iter-turn-iterator.result} items c.into_iter-turn-iterator.ensures.into_iter_gives.0 (c.into_iter-turn-iterator.ensures.into_iter_gives.1 ∙ c.args.turns.ok.0) in
    let turn = YieldsList-turn road c.loop-turn.yielded _ c.loop-turn.yielded_by _ c.next.new.self x c.in-Some.is c.next.ensures.steps in
    subst (λ (k : Config). IsTurnFor k x) (sym c.loop-turn.invariant.config)
    (subst (IsTurnFor k0) (sym turn.1) (All-get_or (IsTurnFor k0) items (length c.loop-turn.yielded) x turn.0 c.requires.turns))

pub turn-requires-clause-room : goal.turn-requires-clause-room
turn-requires-clause-room g c = λ ks _.
    let k0 = c.args.supervisor.config in
    let items = c.args.turns.items in
    let x = c.in-Some.turn in
    let n = length c.loop-turn.yielded in
    let road = YieldsList-from_vec {s = c.into_iter-turn-iterator.result} items c.into_iter-turn-iterator.ensures.into_iter_gives.0 (c.into_iter-turn-iterator.ensures.into_iter_gives.1 ∙ c.args.turns.ok.0) in
    let turn = YieldsList-turn road c.loop-turn.yielded _ c.loop-turn.yielded_by _ c.next.new.self x c.in-Some.is c.next.ensures.steps in
    let within = sum_by_more_le (most_events k0) items n x turn.0 in
    let same = ap (most_events k0) turn.1 in
    let front = c.loop-turn.invariant.front in
    let room = c.requires.room in
    subst (λ (k : Config). (state_in c.loop-turn.supervisor).front + most_events k x ≤ 1000000) (sym c.loop-turn.invariant.config) (omega arith)

pub loop-turn-preserved : goal.loop-turn-preserved
loop-turn-preserved g c =
    let k0 = c.args.supervisor.config in
    let s = standing_in c.args.supervisor in
    let items = c.args.turns.items in
    let x = c.in-Some.turn in
    let n = length c.loop-turn.yielded in
    let inv = c.loop-turn.invariant in
    let road = YieldsList-from_vec {s = c.into_iter-turn-iterator.result} items c.into_iter-turn-iterator.ensures.into_iter_gives.0 (c.into_iter-turn-iterator.ensures.into_iter_gives.1 ∙ c.args.turns.ok.0) in
    let turn = YieldsList-turn road c.loop-turn.yielded _ c.loop-turn.yielded_by _ c.next.new.self x c.in-Some.is c.next.ensures.steps in
    let next = c.in_ok-next.next in
    let report = c.in_ok-next.report in
    let count : length (c.loop-turn.yielded ++ x ∷ []) ≡ n + 1 = omega (arith, length-append c.loop-turn.yielded (x ∷ [])) in
    let reached = reach_more (map code_turn_as_events (take n items)) (map turn_report_view c.loop-turn.reports.items) s (standing_in c.loop-turn.supervisor) (standing_in next) (code_turn_as_events x) (turn_report_view report)
    inv.reports c.in_ok-next.ensures.report c.in_ok-next.ensures.standing in
    let turns : map code_turn_as_events (take n items) ++ code_turn_as_events x ∷ [] ≡ map code_turn_as_events (take (length (c.loop-turn.yielded ++ x ∷ [])) items) =
    sym (seen_more code_turn_as_events items n x turn.0 turn.1) ∙ sym (ap (λ k. map code_turn_as_events (take k items)) count) in
    let reports = sym (ap (map turn_report_view) c.in_ok-push.ensures.items ∙ map-append turn_report_view c.loop-turn.reports.items (report ∷ [])) in
    let sum = sum_by_more (most_events k0) items n x turn.0 in
    let same = ap (most_events k0) turn.1 in
    let moved : most_events c.loop-turn.supervisor.config x ≡ most_events k0 x = ap (λ (k : Config). most_events k x) inv.config in
    let whole = ap (λ k. sum_by (most_events k0) (take k items)) count in
    let front = inv.front in
    let later = c.in_ok-next.ensures.later.front in
    record {
      reports = subst (λ (p : List Turn × Report). Reach s p.0 p.1 (standing_in next)) (λ i. (turns i, reports i)) reached;
      config = c.in_ok-next.ensures.later.config ∙ inv.config;
      front = omega arith;
    }

pub returns-clause-reports : goal.returns-clause-reports
returns-clause-reports g c =
    let items = c.args.turns.items in
    let road = YieldsList-from_vec {s = c.into_iter-turn-iterator.result} items c.into_iter-turn-iterator.ensures.into_iter_gives.0 (c.into_iter-turn-iterator.ensures.into_iter_gives.1 ∙ c.args.turns.ok.0) in
    let end = YieldsList-end road c.loop-turn.yielded _ c.loop-turn.yielded_by _ c.next.new.self c.in-None.is c.next.ensures.steps in
    let all = take_all (length c.loop-turn.yielded) items (omega (arith, end.1)) in
    subst (λ ts. AreTurnReports (standing_in c.args.supervisor) (map code_turn_as_events ts) (map turn_report_view c.loop-turn.reports.items)) all
    (reach_reports (map code_turn_as_events (take (length c.loop-turn.yielded) items)) (map turn_report_view c.loop-turn.reports.items) (standing_in c.args.supervisor) (standing_in c.loop-turn.supervisor)
    c.loop-turn.invariant.reports)

pub returns-clause-leads : goal.returns-clause-leads
returns-clause-leads g c =
    let items = c.args.turns.items in
    let road = YieldsList-from_vec {s = c.into_iter-turn-iterator.result} items c.into_iter-turn-iterator.ensures.into_iter_gives.0 (c.into_iter-turn-iterator.ensures.into_iter_gives.1 ∙ c.args.turns.ok.0) in
    let end = YieldsList-end road c.loop-turn.yielded _ c.loop-turn.yielded_by _ c.next.new.self c.in-None.is c.next.ensures.steps in
    let all = take_all (length c.loop-turn.yielded) items (omega (arith, end.1)) in
    subst (λ ts. Leads (standing_in c.args.supervisor) (map code_turn_as_events ts) (standing_in c.loop-turn.supervisor)) all
    (reach_leads (map code_turn_as_events (take (length c.loop-turn.yielded) items)) (map turn_report_view c.loop-turn.reports.items) (standing_in c.args.supervisor) (standing_in c.loop-turn.supervisor)
    c.loop-turn.invariant.reports)

pub returns-clause-later : goal.returns-clause-later
returns-clause-later g c =
    let items = c.args.turns.items in
    let road = YieldsList-from_vec {s = c.into_iter-turn-iterator.result} items c.into_iter-turn-iterator.ensures.into_iter_gives.0 (c.into_iter-turn-iterator.ensures.into_iter_gives.1 ∙ c.args.turns.ok.0) in
    let end = YieldsList-end road c.loop-turn.yielded _ c.loop-turn.yielded_by _ c.next.new.self c.in-None.is c.next.ensures.steps in
    let all = take_all (length c.loop-turn.yielded) items (omega (arith, end.1)) in
    let inv = c.loop-turn.invariant in
    let k0 = c.args.supervisor.config in
    record {
      config = inv.config;
      front = subst (λ ts. (state_in c.loop-turn.supervisor).front ≤ (state_in c.args.supervisor).front + sum_by (most_events k0) ts) all inv.front;
    }
