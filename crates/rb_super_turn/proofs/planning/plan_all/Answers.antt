use Rattle.std.proofs.Common.{◌≡◌, ◌+◌, ◌++◌, [], ◌∷◌, map, length, refl, sym, ap, ◌∙◌, subst, arith}
use Rattle.std.proofs.lemmas.List.{length-append, length-map, map-append}
use Rattle.rb_script_types.specs.Config.{Config}
use Rattle.rb_super_turn.specs.Phases.{standing_in, AreReported}
use Rattle.rb_super_turn.specs.Views.{client_report_view}
use Rattle.rb_super_turn.proofs.Phases.{reported_more}
use Rattle.rb_super_turn.proofs.Steps.{later_none, later_trans}
use Rattle.rb_super_turn.proofs.planning.plan_all.Goals as goal

pub loop-client-init : goal.loop-client-init
loop-client-init g c =
    let s = standing_in c.args.relayer.now in
    record {
      count = ap length c.in_ok-reports.ensures.items;
      reports = subst (AreReported s s 0) (sym (ap (map client_report_view) c.in_ok-reports.ensures.items)) refl;
      ready = c.requires.ready;
      later = later_none c.args.relayer.now;
    }

pub loop-client-preserved : goal.loop-client-preserved
loop-client-preserved g c =
    let s = standing_in c.args.relayer.now in
    let n = c.loop-client.client in
    let inv = c.loop-client.invariant in
    let reports = c.loop-client.reports.items in
    let one = c.in_ok-plan_client.field-0 in
    let new = c.plan_client.new.relayer in
    let pushed = c.in_ok-push.ensures.items in
    record {
      count = let count = inv.count in omega (arith, ap length pushed, length-append reports (one ∷ []));
      reports = subst (AreReported s (standing_in new) 0)
          (sym (ap (map client_report_view) pushed ∙ map-append client_report_view reports (one ∷ [])))
          (reported_more (map client_report_view reports) 0 n s (standing_in c.loop-client.relayer) (standing_in new) (client_report_view one)
          (let long = length-map reports client_report_view ∙ inv.count in omega (arith, long)) inv.reports c.in_ok-plan_client.ensures.report);
      ready = c.in_ok-plan_client.ensures.ready;
      later = later_trans n 1 c.args.relayer.now c.loop-client.relayer new inv.later c.in_ok-plan_client.ensures.later;
    }

pub returns-clause-count : goal.returns-clause-count
returns-clause-count g c =
    let count = c.loop-client.invariant.count in
    omega (arith, ap (λ (k : Config). length k.clients) c.config.ensures.value)
