use Rattle.std.proofs.Common.{◌≡◌, map, take}
use Rattle.rb_core_model.specs.Snapshot.{snapshot_of_path}
use Rattle.rb_core_state.specs.Known.{known_path}
use Rattle.rb_core_state.specs.Room.{PathWithRoom}
use Rattle.rb_script_types.specs.declared.config.PathConfig.{PathConfig}
use Rattle.rb_core_state.proofs.snapshot.restored_paths.Given as goal

abbrev pub invariant-loop-place : goal.invariant-loop-place
invariant-loop-place g l =
    (map (λ (h : PathWithRoom). h.path.config) l.paths.items ≡ map (λ (c : PathConfig). c) (take l.place l.configs))
    × (map (λ (h : PathWithRoom). snapshot_of_path h.path) l.paths.items ≡ map known_path (take l.place l.known))
