use Rattle.std.proofs.Common.{◌≡◌, map, take}
use Rattle.rb_core_model.specs.Snapshot.{snapshot_of_path}
use Rattle.rb_core_state.specs.Known.{known_path}
use Rattle.rb_core_state.specs.Room.{PathWithRoom}
use Rattle.rb_core_state.proofs.snapshot.path_snapshots.Given as goal

abbrev pub invariant-loop-path : goal.invariant-loop-path
invariant-loop-path g l = map known_path l.known.items ≡ map (λ (h : PathWithRoom). snapshot_of_path h.path) (take l.path-index l.paths)
