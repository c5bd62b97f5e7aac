use Rattle.std.proofs.Common.{ap, ◌∙◌}
use Rattle.std.specs.List.{flat_map}
use Rattle.std.proofs.lemmas.List.{take_all}
use Rattle.rb_core_model.specs.Forgetting.{needs_of_path}
use Rattle.rb_core_state.specs.Room.{PathWithRoom, books_of}
use Rattle.rb_core_state.specs.Floors.{lowered}
use Rattle.rb_core_state.proofs.Lowest.{lowered-next, seen_each}
use Rattle.rb_core_state.proofs.floors.lower_by_paths.Goals as goal

pub loop-path-preserved : goal.loop-path-preserved
loop-path-preserved g c =
    lowered-next (λ (h : PathWithRoom). needs_of_path (books_of c.args.books.now) c.args.chain h.path) c.args.paths.now c.loop-path.path-index c.path-item.result c.args.lowest _ _
    c.loop-path-test.true c.path-item.is c.loop-path.invariant c.lower_by_path-least.ensures

pub returns : goal.returns
returns g c =
    let paths = c.args.paths.now in
    let needed = needs_of_path (books_of c.args.books.now) c.args.chain in
    c.loop-path.invariant ∙ ap (λ xs. lowered c.args.lowest (flat_map (λ (h : PathWithRoom). needed h.path) xs)) (take_all c.loop-path.path-index paths c.loop-path-test.false)
    ∙ ap (lowered c.args.lowest) (seen_each (λ (h : PathWithRoom). h.path) needed paths)
