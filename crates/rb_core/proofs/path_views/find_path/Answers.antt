use Rattle.std.proofs.Common.{List, subst}
use Rattle.std.specs.Slice.{IsItemAt}
use Rattle.rb_core_state.specs.Room.{PathWithRoom}
use Rattle.rb_core_state.proofs.Found.{view_found}
use Rattle.rb_core.proofs.path_views.find_path.Goals as goal

pub returns : goal.returns
returns g c =
    view_found (λ (h : PathWithRoom). h.path) c.args.state.now.paths.items c.args.path c.get.result
    (subst (λ (xs : List PathWithRoom). IsItemAt xs c.args.path c.get.result) c.as_slice.ensures.value c.get.ensures.lookup)
