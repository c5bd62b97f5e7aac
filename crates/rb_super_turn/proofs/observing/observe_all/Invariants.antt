use Rattle.std.proofs.Common.{◌≡◌, fold, map, take, length}
use Rattle.rb_core_model.specs.Seen.{observed}
use Rattle.rb_core_model.specs.Standing.{standing_after}
use Rattle.rb_super_turn.specs.Turns.{refusals}
use Rattle.rb_super_turn.specs.Phases.{standing_in, IsLater}
use Rattle.rb_super_turn.specs.Views.{refused_view}
use Rattle.rb_super_turn.proofs.observing.observe_all.Given as goal

abbrev pub invariant-loop-observation : goal.invariant-loop-observation
invariant-loop-observation g l = record {
  event : l.event ≡ length l.yielded;
  standing : standing_in l.relayer ≡ fold standing_after (standing_in l.fn.relayer) (map observed (take l.event l.fn.observations.items));
  refused : map refused_view l.refused.items ≡ refusals 0 (standing_in l.fn.relayer) (map observed (take l.event l.fn.observations.items));
  later : IsLater l.event l.fn.relayer l.relayer;
}
