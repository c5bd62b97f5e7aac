use Rattle.std.proofs.Common.{◌+◌, ◌-◌, ◌≤◌, length}
use Rattle.rb_core_state.specs.Room.{next_among}
use Rattle.rb_core_state.proofs.path.count_run.Given as goal

abbrev pub invariant-loop-run : goal.invariant-loop-run
invariant-loop-run l = (l.first + l.run ≤ next_among l.first l.packets) × (l.run ≤ length l.packets)

abbrev pub decreases-loop-run : goal.decreases-loop-run
decreases-loop-run l = length l.packets - l.run
