use Rattle.std.proofs.Common.{◌≡◌, map, length}
use Rattle.rb_super_turn.specs.Phases.{standing_in, IsLater, IsPlannable, AreReported}
use Rattle.rb_super_turn.specs.Views.{client_report_view}
use Rattle.rb_super_turn.proofs.planning.plan_all.Given as goal

abbrev pub invariant-loop-client : goal.invariant-loop-client
invariant-loop-client g l = record {
  count : length l.reports.items ≡ l.client;
  reports : AreReported (standing_in l.fn.relayer) (standing_in l.relayer) 0 (map client_report_view l.reports.items);
  ready : IsPlannable l.relayer;
  later : IsLater l.client l.fn.relayer l.relayer;
}
