use Rattle.std.proofs.Common.{◌≡◌, ◌<◌, length, refl, ap, ◌∙◌, arith}
use Rattle.std.proofs.lemmas.List.{length-map}
use Rattle.rb_core_model.specs.Over.{rest_of_path}
use Rattle.rb_core_state.specs.Room.{PathWithRoom, paths_of}
use Rattle.rb_core_state.proofs.Forgotten.{upto, seen-step, upto-each}
use Rattle.rb_core_state.proofs.paths.forget.Goals as goal

pub loop-path-preserved : goal.loop-path-preserved
loop-path-preserved g c =
    let initial = c.args.paths.now in
    let long = length-map initial.items (λ (h : PathWithRoom). h.path) in
    let within : c.loop-path.path < length (paths_of initial.items) = omega (arith, c.loop-path-test.true, c.len-path-end.ensures, initial.ok.0, long) in
    seen-step (λ (h : PathWithRoom). h.path) (λ place. rest_of_path) c.loop-path.path (paths_of initial.items) c.loop-path.paths.items _
    c.index_mut.result.now c.forget.new.self within c.loop-path.invariant c.index_mut.ensures.value c.forget.ensures refl

pub returns : goal.returns
returns g c =
    let initial = c.args.paths.now in
    let long = length-map initial.items (λ (h : PathWithRoom). h.path) in
    let end : c.loop-path.path ≡ length (paths_of initial.items) = omega (arith, c.loop-path-test.false, c.loop-path.auto.path-end, c.len-path-end.ensures, initial.ok.0, long) in
    c.loop-path.invariant ∙ ap (λ k. upto (λ place. rest_of_path) 0 k (paths_of initial.items)) end ∙ upto-each rest_of_path 0 (paths_of initial.items)
