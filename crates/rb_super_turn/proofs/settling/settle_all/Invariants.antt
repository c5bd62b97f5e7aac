use Rattle.std.proofs.Common.{◌≡◌, ◌++◌, fold, map, take, drop}
use Rattle.rb_super_turn.specs.Turns.{after_settlement, settlement_reports}
use Rattle.rb_super_turn.specs.Phases.{standing_in, IsLater}
use Rattle.rb_super_turn.specs.Views.{settlement_view}
use Rattle.rb_super_turn.proofs.settling.settle_all.Given as goal

-- what was settled so far, and what is left to be reported
abbrev pub invariant-loop-settlement : goal.invariant-loop-settlement
invariant-loop-settlement g l = record {
  standing : standing_in l.relayer ≡ fold after_settlement (standing_in l.fn.relayer) (take l.settlement-index l.settlements);
  reports : map settlement_view l.reports.items ++ settlement_reports (standing_in l.relayer) (drop l.settlement-index l.settlements)
      ≡ settlement_reports (standing_in l.fn.relayer) l.settlements;
  later : IsLater l.settlement-index l.fn.relayer l.relayer;
}
