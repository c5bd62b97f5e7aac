use Rattle.std.proofs.Common.{◌≡◌, map, take}
use Rattle.rb_core_state.specs.Room.{paths_of}
use Rattle.rb_core_model.specs.Standing.{new_path}
use Rattle.rb_core_state.proofs.paths.new_paths.Given as goal

abbrev pub invariant-loop-config : goal.invariant-loop-config
invariant-loop-config g l = paths_of l.paths.items ≡ map new_path (take l.config-index l.configs)
