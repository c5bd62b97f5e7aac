use Rattle.std.proofs.Common.{true}
use Rattle.rb_core_state.specs.Room.{PathWithRoom}
use Rattle.rb_core_model.specs.Standing.{PathState}
use Rattle.rb_core_state.proofs.Places.{seen_changed}
use Rattle.rb_core_state.proofs.paths.close.Goals as goal

pub returns : goal.returns
returns g c =
    seen_changed (λ (h : PathWithRoom). h.path) (λ (p : PathState). record p { closed = true }) c.args.paths.now.items c.args.path c.index_mut.result.now c.close.new.self c.requires c.index_mut.ensures.value c.close.ensures.path
