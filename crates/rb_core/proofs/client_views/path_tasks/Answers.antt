use Rattle.std.proofs.Common.{◌≡◌, ◌++◌, ◌+◌, ℕ, List, Some, slice_get, drop, map, sym, ap, ◌∙◌, subst}
use Rattle.std.specs.List.{enumerate_from, filter_map}
use Rattle.rb_core_state.specs.Room.{PathWithRoom}
use Rattle.rb_core.specs.State.{state_view}
use Rattle.rb_core_model.specs.Machine.{seen_owed}
use Rattle.rb_core_model.specs.Standing.{PathState, path_task}
use Rattle.rb_plan_client.specs.Task.{PathTask}
use Rattle.rb_core_state.proofs.Found.{get-from_get_or}
use Rattle.rb_core.proofs.Shown.{next_place, walked}
use Rattle.rb_core.proofs.client_views.path_tasks.Goals as goal

pub loop-place-preserved : goal.loop-place-preserved
loop-place-preserved g c =
    let xs = c.args.state.now.paths.items in
    let i = c.loop-place.place in
    let h = c.path-item.result in
    let done = c.loop-place.tasks.items in
    let f = path_task (seen_owed (state_view c.args.state.now)) c.args.client in
    let rest = enumerate_from (i + 1) (map (λ (x : PathWithRoom). x.path) (drop (i + 1) xs)) in
    let at = subst (λ (l : List PathWithRoom). slice_get l i ≡ Some h) c.deref-path-items.ensures.value (get-from_get_or c.deref-path-items.result.now i h c.loop-place-test.true c.path-item.is) in
    ap (λ (l : List PathTask). l ++ filter_map f rest) c.in_ok-add_task.ensures ∙ walked f done (i, h.path) rest
    ∙ ap (λ (l : List (ℕ × PathState)). done ++ filter_map f l) (sym (next_place (λ (x : PathWithRoom). x.path) xs i h at)) ∙ c.loop-place.invariant
