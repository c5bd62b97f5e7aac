use Rattle.std.proofs.Common.{◌≡◌, List, Some, ap, ◌∙◌, subst, arith}
use Rattle.std.specs.List.{slice_get}
use Rattle.std.specs.Option.{option_map}
use Rattle.std.proofs.lemmas.List.{length-map}
use Rattle.std.proofs.lemmas.Option.{slice_get-map}
use Rattle.rb_core.specs.State.{standing_view}
use Rattle.rb_core_model.specs.Fits.{FitsClient}
use Rattle.rb_core_state.specs.Room.{ClientWithRoom, clients_of}
use Rattle.rb_core_state.proofs.Found.{get-from_get_or}
use Rattle.rb_core.proofs.Restoring.{one_more, for_all}
use Rattle.rb_core.proofs.fitting.fit_clients.Goals as goal

pub loop-place-preserved : goal.loop-place-preserved
loop-place-preserved g c =
    let s = standing_view c.args.state.now in
    let hs = c.args.state.now.clients.items in
    let i = c.loop-place.place in
    let h = c.client-item.result in
    let f = λ (x : ClientWithRoom). x.client in
    let at : slice_get hs i ≡ Some h = subst (λ (l : List ClientWithRoom). slice_get l i ≡ Some h) c.deref-client-items.ensures.value (get-from_get_or c.deref-client-items.result.now i h c.loop-place-test.true c.client-item.is) in
    one_more (FitsClient s) (clients_of hs) i h.client (slice_get-map f hs i ∙ ap (option_map f) at) (c.fits_client.ensures c.if-not-fits_client.false) c.loop-place.invariant

pub returns : goal.returns
returns g c =
    let s = standing_view c.args.state.now in
    let hs = c.args.state.now.clients.items in
    λ h. for_all (FitsClient s) (clients_of hs) c.loop-place.place (omega (arith, c.loop-place-test.false, length-map hs (λ (x : ClientWithRoom). x.client))) c.loop-place.invariant
