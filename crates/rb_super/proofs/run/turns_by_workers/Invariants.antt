use Rattle.std.proofs.Common.{◌≡◌, ◌+◌, ◌≤◌, map, take, length}
use Rattle.std.specs.List.{sum_by}
use Rattle.rb_core.specs.Core.{state_in}
use Rattle.rb_super_turn.specs.Phases.{standing_in}
use Rattle.rb_super_turn.specs.Views.{turn_report_view}
use Rattle.rb_super_turn.specs.AsEvents.{code_turn_as_events, most_events}
use Rattle.rb_super_turn.proofs.Runs.{Reach}
use Rattle.rb_super.proofs.run.turns_by_workers.Given as goal

abbrev pub invariant-loop-turn : goal.invariant-loop-turn
invariant-loop-turn g l = record {
  reports : Reach (standing_in l.fn.workers) (map code_turn_as_events (take (length l.yielded) l.fn.turns.items)) (map turn_report_view l.reports.items) (standing_in l.workers);
  config : l.workers.config ≡ l.fn.workers.config;
  front : (state_in l.workers).front ≤ (state_in l.fn.workers).front + sum_by (most_events l.fn.workers.config) (take (length l.yielded) l.fn.turns.items);
}
