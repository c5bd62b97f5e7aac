use Rattle.std.proofs.Common.{◌≡◌, take}
use Rattle.std.specs.List.{flat_map}
use Rattle.rb_core_model.specs.Forgetting.{needs_of_path}
use Rattle.rb_core_state.specs.Floors.{lowered}
use Rattle.rb_core_state.specs.Room.{PathWithRoom, books_of}
use Rattle.rb_core_state.proofs.floors.lower_by_paths.Given as goal

abbrev pub invariant-loop-path : goal.invariant-loop-path
invariant-loop-path g l =
    l.least ≡ lowered l.fn.lowest (flat_map (λ (h : PathWithRoom). needs_of_path (books_of l.books) l.chain h.path) (take l.path-index l.paths))
