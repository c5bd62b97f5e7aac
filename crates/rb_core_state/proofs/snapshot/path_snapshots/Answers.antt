use Rattle.std.proofs.Common.{◌≡◌, length, map, sym, ap, ◌∙◌, arith}
use Rattle.std.proofs.lemmas.List.{take_all}
use mathlib.Core.List.{map-map}
use Rattle.rb_core_model.specs.Snapshot.{snapshot_of_path}
use Rattle.rb_core_state.specs.Known.{known_path}
use Rattle.rb_core_state.specs.Room.{PathWithRoom}
use Rattle.rb_core_state.proofs.Copied.{one_made}
use Rattle.rb_core_state.proofs.snapshot.path_snapshots.Goals as goal

pub loop-path-preserved : goal.loop-path-preserved
loop-path-preserved g c =
    let f = λ (h : PathWithRoom). snapshot_of_path h.path in
    ap (λ xs. map known_path xs) c.in_ok-push.ensures.items
    ∙ one_made known_path f c.loop-path.known.items c.args.paths.now c.loop-path.path-index c.in_ok-snapshot.field-0 c.path-item.result c.loop-path-test.true
    (c.in_ok-snapshot.ensures ∙ ap f c.path-item.is) c.loop-path.invariant

pub returns : goal.returns
returns g c =
    let f = λ (h : PathWithRoom). snapshot_of_path h.path in
    c.loop-path.invariant ∙ ap (λ xs. map f xs) (take_all c.loop-path.path-index c.args.paths.now (omega arith))
    ∙ sym (map-map snapshot_of_path (λ (h : PathWithRoom). h.path) c.args.paths.now)
