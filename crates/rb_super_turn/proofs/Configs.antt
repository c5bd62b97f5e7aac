-- Clients keep how they are configured.
use Rattle.std.proofs.Common.{◌≡◌, ℕ, zero, suc, ◌<◌, List, [], ◌∷◌, Some, length, map, get_or, sym, ap, ◌∙◌}
use Rattle.std.specs.List.{slice_get}
use Rattle.std.proofs.lemmas.Option.{same_Some}
use Rattle.rb_script_types.specs.declared.config.ClientConfig.{ClientConfig}
use Rattle.rb_core.specs.Core.{Core}
use Rattle.rb_core_model.specs.Machine.{begun}
use Rattle.rb_core_model.specs.Standing.{ClientState}
use Rattle.rb_core_model.proofs.Configs.{config_of, configured_begun, configured_fold}
use Rattle.rb_core_state.proofs.Places.{found}
use Rattle.rb_super_turn.specs.Phases.{standing_in}

get_map : {X Y : Type 0} (f : X → Y) (xs : List X) (i : ℕ) (x : X) → slice_get xs i ≡ Some x → slice_get (map f xs) i ≡ Some (f x)
get_map f [] i x e = absurd (cc)
get_map f (y ∷ xs) zero x e = ap (λ z. Some (f z)) (same_Some y x e)
get_map f (y ∷ xs) (suc i) x e = get_map f xs i x e

-- all clients have the configurations of their places
pub configs_are : (core : Core) → map config_of (standing_in core).clients ≡ core.config.clients
configs_are core =
    (configured_fold core.config core.log.events (begun core.config core.log.start) (configured_begun core.config core.log.start)).clients

-- a client that is known at a place has the configuration of that place
pub known_config : (core : Core) (client : ℕ) (c : ClientConfig) → client < length core.config.clients → c ≡ get_or core.config.clients client c
    → (known : ClientState) → slice_get (standing_in core).clients client ≡ Some known → known.config ≡ c
known_config core client c lt at known e =
    same_Some known.config c
    (sym (get_map config_of (standing_in core).clients client known e) ∙ ap (λ cs. slice_get cs client) (configs_are core) ∙ found core.config.clients client c lt at)
