use Rattle.std.proofs.Common.{◌≡◌, map, take}
use Rattle.rb_core_state.specs.Room.{paths_of}
use Rattle.rb_core_model.specs.Standing as standings
use Rattle.rb_core_state.proofs.paths.firsts.Given as goal

abbrev pub invariant-loop-path : goal.invariant-loop-path
invariant-loop-path g l = l.firsts.items ≡ map (λ (p : standings.PathState). p.first) (paths_of (take l.path-index l.paths))
