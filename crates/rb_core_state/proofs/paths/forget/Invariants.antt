use Rattle.std.proofs.Common.{◌≡◌}
use Rattle.rb_core_model.specs.Over.{rest_of_path}
use Rattle.rb_core_state.specs.Room.{paths_of}
use Rattle.rb_core_state.proofs.Forgotten.{upto}
use Rattle.rb_core_state.proofs.paths.forget.Given as goal

abbrev pub invariant-loop-path : goal.invariant-loop-path
invariant-loop-path g l = paths_of l.paths.items ≡ upto (λ place. rest_of_path) 0 l.path (paths_of l.initial.paths.items)
