use Rattle.std.proofs.Common.{All, take}
use Rattle.rb_core_model.specs.Fits.{FitsPath}
use Rattle.rb_core_state.specs.Room.{PathWithRoom}
use Rattle.rb_core.proofs.fitting.are_paths.Given as goal

abbrev pub invariant-loop-path : goal.invariant-loop-path
invariant-loop-path g l = All (λ (h : PathWithRoom). FitsPath h.path) (take l.path-index l.paths)
