use Rattle.std.proofs.Common.{◌≡◌, ℕ, ◌+◌, ◌++◌, [], ◌∷◌, map, refl, sym, ap, ◌∙◌, subst, append_assoc, append-nil, arith}
use Rattle.std.specs.List.{fold, range_with_len}
use Rattle.std.specs.Option.{option_map, option_to_list}
use Rattle.std.proofs.lemmas.List.Sums.{fold-append}
use Rattle.rb_core_model.specs.Standing.{Standing}
use Rattle.rb_super_turn.specs.Phases.{standing_in}
use Rattle.rb_super_turn.specs.Turns.{settlement_report, taking, after_taking, taking_reports}
use Rattle.rb_super_turn.specs.Views.{settlement_view}
use Rattle.rb_super_turn.proofs.Steps.{later_none, later_trans}
use Rattle.rb_super_turn.proofs.Takings.{row_push, takings_push}
use Rattle.rb_super_turn.proofs.settling.take_all.Goals as goal

pub loop-client-init : goal.loop-client-init
loop-client-init g c = record {
  standing = refl;
  reports = sym (append-nil (map settlement_view c.args.reports.now.items));
  later = later_none c.args.relayer.now;
}

pub loop-client-preserved : goal.loop-client-preserved
loop-client-preserved g c =
    let s = standing_in c.args.relayer.now in
    let n = c.loop-client.client in
    let inv = c.loop-client.invariant in
    let before = fold after_taking s (range_with_len 0 n) in
    let same : 0 + n ≡ n = omega arith in
    let row = row_push n 0 ∙ ap (λ m. range_with_len 0 n ++ m ∷ []) same in
    record {
      standing = c.in_ok-take_one.ensures.standing ∙ ap (λ u. after_taking u n) inv.standing ∙ sym (ap (fold after_taking s) row ∙ fold-append after_taking s (range_with_len 0 n) (n ∷ []));
      reports = c.in_ok-take_one.ensures.reports
          ∙ ap (λ u. map settlement_view c.loop-client.reports.items ++ option_to_list (option_map (settlement_report u) (taking u n))) inv.standing
          ∙ ap (λ rs. rs ++ option_to_list (option_map (settlement_report before) (taking before n))) inv.reports
          ∙ append_assoc (map settlement_view c.args.reports.now.items) (taking_reports s (range_with_len 0 n)) _
          ∙ ap (λ rs. map settlement_view c.args.reports.now.items ++ rs) (sym (ap (taking_reports s) row ∙ takings_push (range_with_len 0 n) n s));
      later = later_trans n 1 c.args.relayer.now c.loop-client.relayer c.take_one.new.relayer inv.later c.in_ok-take_one.ensures.later;
    }
