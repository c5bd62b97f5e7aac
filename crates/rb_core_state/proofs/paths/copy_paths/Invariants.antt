use Rattle.std.proofs.Common.{◌≡◌, take}
use Rattle.rb_core_state.specs.Room.{paths_of}
use Rattle.rb_core_state.proofs.paths.copy_paths.Given as goal

abbrev pub invariant-loop-path : goal.invariant-loop-path
invariant-loop-path g l = paths_of l.copies.items ≡ paths_of (take l.path-index l.paths)
