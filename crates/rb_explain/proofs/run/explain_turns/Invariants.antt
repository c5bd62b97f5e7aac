use Rattle.std.proofs.Common.{◌≡◌, ◌+◌, ◌≤◌, map, take, length}
use Rattle.std.specs.List.{sum_by}
use Rattle.rb_core.specs.Core.{state_in}
use Rattle.rb_super_turn.specs.AsEvents.{code_turn_as_events, most_events}
use Rattle.rb_super_turn.specs.Phases.{standing_in}
use Rattle.rb_explain.proofs.Listeners.{IsSoFar}
use Rattle.rb_explain.proofs.run.explain_turns.Given as goal

abbrev pub invariant-loop-turn : goal.invariant-loop-turn
invariant-loop-turn g l = record {
  config : l.relayer.config ≡ l.fn.relayer.config;
  front : (state_in l.relayer).front ≤ (state_in l.fn.relayer).front + sum_by (most_events l.fn.relayer.config) (take (length l.yielded) l.fn.turns.items);
  number : l.number ≡ length l.yielded;
  so_far : IsSoFar l.wanted (standing_in l.fn.relayer) (map code_turn_as_events l.fn.turns.items) (length l.yielded) (standing_in l.relayer) (g.L.Listener.explanations l.initial.listener) (g.L.Listener.explanations l.listener);
}
