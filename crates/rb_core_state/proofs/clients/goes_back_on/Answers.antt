use Rattle.std.proofs.Common.{◌∙◌, rules, sym, tests}
use Rattle.std.proofs.lemmas.Iterator.{YieldsList-from_slice}
use Rattle.std.proofs.lemmas.Iterator.Search.{any_from_yields_List}
use Rattle.rb_core_model.specs.Standing.{goes_back_on}
use Rattle.rb_core_state.specs.Room.{ClientWithRoom}
use Rattle.rb_core_state.proofs.Forgotten.{any_map}
use Rattle.rb_core_state.proofs.clients.goes_back_on.Goals as goal

pub returns : goal.returns
returns g c =
    let clients = c.args.clients.now in
    any_from_yields_List (λ (h : ClientWithRoom). goes_back_on c.args.common c.args.host c.args.window h.client) _ _ c.any.result c.any.ensures.ran (YieldsList-from_slice clients cc)
    (λ x b q k. search (rules, tests))
    ∙ sym (any_map (goes_back_on c.args.common c.args.host c.args.window) (λ (h : ClientWithRoom). h.client) clients)
