use Rattle.std.proofs.Common.{ap, ◌∙◌}
use Rattle.rb_core_state.specs.Room.{PathWithRoom}
use Rattle.rb_core_state.specs.Marked.{mark_by}
use Rattle.rb_core_model.specs.Standing.{with_mark}
use Rattle.rb_core_state.proofs.Places.{seen_changed}
use Rattle.rb_core_state.proofs.paths.put_mark.Goals as goal

pub returns : goal.returns
returns g c =
    seen_changed (λ (h : PathWithRoom). h.path) (with_mark (mark_by c.args.mark) c.args.sequence) c.args.paths.now.items c.args.path c.index_mut-path.result.now c.count_on.new.self c.requires c.index_mut-path.ensures.value
    (ap (λ (h : PathWithRoom). h.path) c.count_on.ensures ∙ c.put_mark.ensures.path)
