use Rattle.std.proofs.Common.{◌≡◌, map, drop}
use Rattle.std.specs.List.{enumerate_from, list_any}
use Rattle.rb_core_state.specs.Room.{PathWithRoom}
use Rattle.rb_core.specs.State.{standing_view, state_view}
use Rattle.rb_core_model.specs.Machine.{is_missed}
use Rattle.rb_core.proofs.path_views.all_scanned.Given as goal

abbrev pub invariant-loop-place : goal.invariant-loop-place
invariant-loop-place g l =
    list_any (is_missed (state_view l.state) l.client) (enumerate_from l.place (map (λ (h : PathWithRoom). h.path) (drop l.place l.state.paths.items)))
    ≡ list_any (is_missed (state_view l.state) l.client) (enumerate_from 0 (standing_view l.state).paths)
