use Rattle.std.proofs.Common.{◌≡◌, ◌+◌, ◌≤◌, map, take, length}
use Rattle.std.specs.List.{sum_by}
use Rattle.rb_core.specs.Core.{state_in}
use Rattle.rb_super_turn.specs.Phases.{standing_in}
use Rattle.rb_super_turn.specs.Views.{turn_report_view}
use Rattle.rb_super_turn.specs.AsEvents.{code_turn_as_events, most_events}
use Rattle.rb_super_turn.proofs.Runs.{Reach}
use Rattle.rb_super.proofs.run.run_turns.Given as goal

abbrev pub invariant-loop-turn : goal.invariant-loop-turn
invariant-loop-turn g l = record {
  reports : Reach (standing_in l.fn.supervisor) (map code_turn_as_events (take (length l.yielded) l.fn.turns.items)) (map turn_report_view l.reports.items) (standing_in l.supervisor);
  config : l.supervisor.config ≡ l.fn.supervisor.config;
  front : (state_in l.supervisor).front ≤ (state_in l.fn.supervisor).front + sum_by (most_events l.fn.supervisor.config) (take (length l.yielded) l.fn.turns.items);
}
