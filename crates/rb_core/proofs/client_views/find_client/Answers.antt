use Rattle.std.proofs.Common.{List, subst}
use Rattle.std.specs.Slice.{IsItemAt}
use Rattle.rb_core_state.specs.Room.{ClientWithRoom}
use Rattle.rb_core_state.proofs.Found.{view_found}
use Rattle.rb_core.proofs.client_views.find_client.Goals as goal

pub returns : goal.returns
returns g c =
    view_found (λ (h : ClientWithRoom). h.client) c.args.state.now.clients.items c.args.client c.get.result
    (subst (λ (xs : List ClientWithRoom). IsItemAt xs c.args.client c.get.result) c.as_slice.ensures.value c.get.ensures.lookup)
