use Rattle.std.proofs.Common.{◌≡◌, ◌++◌, fold, map}
use Rattle.std.specs.List.{range_with_len}
use Rattle.rb_super_turn.specs.Turns.{after_taking, taking_reports}
use Rattle.rb_super_turn.specs.Phases.{standing_in, IsLater}
use Rattle.rb_super_turn.specs.Views.{settlement_view}
use Rattle.rb_super_turn.proofs.settling.take_all.Given as goal

-- the clients up to this one
abbrev pub invariant-loop-client : goal.invariant-loop-client
invariant-loop-client g l = record {
  standing : standing_in l.relayer ≡ fold after_taking (standing_in l.fn.relayer) (range_with_len 0 l.client);
  reports : map settlement_view l.reports.items ≡ map settlement_view l.fn.reports.items ++ taking_reports (standing_in l.fn.relayer) (range_with_len 0 l.client);
  later : IsLater l.client l.fn.relayer l.relayer;
}
