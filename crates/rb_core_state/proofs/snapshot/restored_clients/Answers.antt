use Rattle.std.proofs.Common.{◌≡◌, IfSome, map, take, ap, ◌∙◌, subst, arith}
use Rattle.std.proofs.lemmas.List.{take_all}
use mathlib.Core.List.{map-id, map-map}
use Rattle.rb_script_types.specs.declared.config.ClientConfig.{ClientConfig}
use Rattle.rb_core_model.specs.Snapshot.{client_from, snapshot_of_client}
use Rattle.rb_core_model.specs.Standing.{ClientState}
use Rattle.rb_core_state.specs.Known.{known_client}
use Rattle.rb_core_state.specs.Room.{ClientWithRoom}
use Rattle.rb_core_state.proofs.Copied.{one_made}
use Rattle.rb_core_state.proofs.snapshot.restored_clients.Goals as goal

pub loop-place-preserved : goal.loop-place-preserved
loop-place-preserved g c =
    let config = c.index-configs-place.result in
    let known = c.index-known-place.result in
    let made : c.in-Some.client.client ≡ client_from config (known_client known) =
    subst (λ o. IfSome o (λ (h : ClientWithRoom). h.client ≡ client_from config (known_client known))) c.in-Some.is c.in_ok-client.ensures in
    let own = λ (h : ClientWithRoom). h.client.config in
    let seen = λ (h : ClientWithRoom). snapshot_of_client h.client in (
      ap (λ hs. map own hs) c.in_ok-push.ensures.items
          ∙ one_made own (λ (x : ClientConfig). x) c.loop-place.clients.items c.args.configs.now c.loop-place.place c.in-Some.client config (omega arith)
          (ap (λ (k : ClientState). k.config) made ∙ c.index-configs-place.is) c.loop-place.invariant.0,
      ap (λ hs. map seen hs) c.in_ok-push.ensures.items
          ∙ one_made seen known_client c.loop-place.clients.items c.args.known.now c.loop-place.place c.in-Some.client known c.loop-place-test.true
          (ap snapshot_of_client made ∙ ap known_client c.index-known-place.is) c.loop-place.invariant.1,
    )

pub returns-clause-configs : goal.returns-clause-configs
returns-clause-configs g c =
    map-map (λ (k : ClientState). k.config) (λ (h : ClientWithRoom). h.client) c.loop-place.clients.items ∙ c.loop-place.invariant.0 ∙ map-id (take c.loop-place.place c.args.configs.now)
    ∙ take_all c.loop-place.place c.args.configs.now (omega arith)

pub returns-clause-known : goal.returns-clause-known
returns-clause-known g c =
    map-map snapshot_of_client (λ (h : ClientWithRoom). h.client) c.loop-place.clients.items ∙ c.loop-place.invariant.1 ∙ ap (λ xs. map known_client xs) (take_all c.loop-place.place c.args.known.now (omega arith))
