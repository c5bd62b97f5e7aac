use Rattle.std.proofs.Common.{map, take, ap, ◌∙◌, arith}
use Rattle.std.proofs.lemmas.List.{take_all}
use mathlib.Core.List.{map-id, map-map}
use Rattle.rb_core_model.specs.Snapshot.{snapshot_of_path}
use Rattle.rb_core_model.specs.Standing.{PathState}
use Rattle.rb_core_state.specs.Known.{known_path}
use Rattle.rb_core_state.specs.Room.{PathWithRoom}
use Rattle.rb_core_state.proofs.snapshot.restored_paths.Goals as goal

pub returns-clause-configs : goal.returns-clause-configs
returns-clause-configs g c =
    map-map (λ (k : PathState). k.config) (λ (h : PathWithRoom). h.path) c.loop-place.paths.items ∙ c.loop-place.invariant.0 ∙ map-id (take c.loop-place.place c.args.configs.now)
    ∙ take_all c.loop-place.place c.args.configs.now (omega arith)

pub returns-clause-known : goal.returns-clause-known
returns-clause-known g c =
    map-map snapshot_of_path (λ (h : PathWithRoom). h.path) c.loop-place.paths.items ∙ c.loop-place.invariant.1 ∙ ap (λ xs. map known_path xs) (take_all c.loop-place.place c.args.known.now (omega arith))
