use Rattle.std.proofs.Common.{◌≡◌, drop}
use Rattle.std.specs.List.{list_any}
use Rattle.rb_core_model.specs.Forgetting.{has_many_over}
use Rattle.rb_core_state.specs.Room.{paths_of}
use Rattle.rb_core_state.proofs.paths.has_many_over.Given as goal

abbrev pub invariant-loop-path : goal.invariant-loop-path
invariant-loop-path g l = list_any (has_many_over l.least) (paths_of (drop l.path-index l.paths)) ≡ list_any (has_many_over l.least) (paths_of l.paths)
