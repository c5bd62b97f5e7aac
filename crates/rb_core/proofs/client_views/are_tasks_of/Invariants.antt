use Rattle.std.proofs.Common.{◌≡◌, map, drop}
use Rattle.std.specs.Cmp.Lexicographic.{pointwise}
use Rattle.std.specs.List.{enumerate_from, filter_map}
use Rattle.rb_core_state.specs.Room.{PathWithRoom}
use Rattle.rb_core.specs.State.{standing_view, state_view}
use Rattle.rb_core_model.specs.Machine.{seen_owed}
use Rattle.rb_plan_client.specs.Same.{same_path_task}
use Rattle.rb_core_model.specs.Standing.{path_task, path_tasks}
use Rattle.rb_core.proofs.client_views.are_tasks_of.Given as goal

abbrev pub invariant-loop-place : goal.invariant-loop-place
invariant-loop-place g l =
    pointwise same_path_task l.rest (filter_map (path_task (seen_owed (state_view l.state)) l.client) (enumerate_from l.place (map (λ (h : PathWithRoom). h.path) (drop l.place l.state.paths.items))))
    ≡ pointwise same_path_task l.tasks (path_tasks (seen_owed (state_view l.state)) (standing_view l.state).paths l.client)
