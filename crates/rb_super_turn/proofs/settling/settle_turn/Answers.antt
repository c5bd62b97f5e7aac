use Rattle.std.proofs.Common.{◌≡◌, ◌++◌, length, sym, ap, ◌∙◌, arith}
use Rattle.std.specs.List.{fold, range_with_len}
use Rattle.rb_script_types.specs.Config.{Config}
use Rattle.rb_super_turn.specs.Phases.{standing_in}
use Rattle.rb_super_turn.specs.Turns.{after_settlement, settlement_reports, after_taking, taking_reports, takers}
use Rattle.rb_super_turn.proofs.Steps.{sizes_in}
use Rattle.rb_super_turn.proofs.settling.settle_turn.Goals as goal

pub returns-clause-reports : goal.returns-clause-reports
returns-clause-reports g c =
    let s = standing_in c.args.relayer.now in
    let xs = c.args.settlements.now in
    let same = ap (λ (k : Config). length k.clients) (c.config.ensures.value ∙ c.in_ok-reports.ensures.later.config) in
    let sizes = (sizes_in c.args.relayer.now).clients in
    let count : c.len-clients.result ≡ length s.clients = omega (arith, c.config.result.now.clients.ok.0) in
    c.in_ok-take_all.ensures.reports
    ∙ (λ i. c.in_ok-reports.ensures.reports i ++ taking_reports (c.in_ok-reports.ensures.standing i) (range_with_len 0 (count i)))
    ∙ ap (λ b. settlement_reports s xs ++ taking_reports (fold after_settlement s xs) (takers s b)) (sym c.if-not-taken.false)

pub returns-clause-standing : goal.returns-clause-standing
returns-clause-standing g c =
    let s = standing_in c.args.relayer.now in
    let xs = c.args.settlements.now in
    let same = ap (λ (k : Config). length k.clients) (c.config.ensures.value ∙ c.in_ok-reports.ensures.later.config) in
    let sizes = (sizes_in c.args.relayer.now).clients in
    let count : c.len-clients.result ≡ length s.clients = omega (arith, c.config.result.now.clients.ok.0) in
    c.in_ok-take_all.ensures.standing
    ∙ (λ i. fold after_taking (c.in_ok-reports.ensures.standing i) (range_with_len 0 (count i)))
    ∙ ap (λ b. fold after_taking (fold after_settlement s xs) (takers s b)) (sym c.if-not-taken.false)
