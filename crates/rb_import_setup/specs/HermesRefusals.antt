-- Why no setup is made for clients.
use Rattle.std.specs.Prelude.{◌≡◌, ⊤, Bool, ◌&&◌, if◌then◌else◌, is_some, List, [], ◌∷◌, Option, Some, None}
use Rattle.std.specs.Option.{option_or}
use Rattle.rb_script_toml.specs.Identifiers.{is_identifier}
use Rattle.rb_script_toml.specs.declared.fault.RunError.{RunError}
use Rattle.rb_import_setup.specs.declared.hermes_client.NamedClient.{NamedClient}
use Rattle.rb_import_setup.specs.declared.hermes_error.HermesError.{HermesError}
use Rattle.rb_import_setup.specs.declared.hermes_error.HermesError.TheVariants as errors
use Rattle.rb_import_setup.specs.HermesChains.{HermesChain}
use Rattle.rb_import_setup.specs.HermesClients.{setup_id}
use Rattle.rb_import_setup.specs.HermesSetups.{chain_with}

-- whether the host of a client and the chain that it tracks are among the chains
abbrev pub has_chains : List HermesChain → NamedClient → Bool
has_chains chains c = is_some (chain_with c.host chains) && is_some (chain_with c.chain chains)

-- why a client isn't written, if so: the chains lack one of its own, or its identifier in a setup is too long
abbrev pub refusal_of : List HermesChain → NamedClient → Option HermesError
refusal_of chains c =
    if has_chains chains c then (if is_identifier (setup_id c) then None else Some (errors.LongIdentifier c)) else Some (errors.UnknownChain c)

-- that of the first client that has one
abbrev pub refusal : List HermesChain → List NamedClient → Option HermesError
refusal chains [] = None
refusal chains (c ∷ cs) = option_or (refusal_of chains c) (refusal chains cs)

-- the error is this refusal, unless memory ran out
abbrev pub IsRefusal : HermesError → Option HermesError → Type 0
IsRefusal errors.NoMemory r = ⊤
IsRefusal (errors.Config fault) r = ⊥
IsRefusal (errors.UnknownChain c) r = r ≡ Some (errors.UnknownChain c)
IsRefusal (errors.LongIdentifier c) r = r ≡ Some (errors.LongIdentifier c)

-- a fact for one of the errors
abbrev pub IfConfig : HermesError → (RunError → Type 0) → Type 0
IfConfig (errors.Config fault) P = P fault
IfConfig _ P = ⊤

abbrev pub IfUnknownChain : HermesError → (NamedClient → Type 0) → Type 0
IfUnknownChain (errors.UnknownChain client) P = P client
IfUnknownChain _ P = ⊤

abbrev pub IfLongIdentifier : HermesError → (NamedClient → Type 0) → Type 0
IfLongIdentifier (errors.LongIdentifier client) P = P client
IfLongIdentifier _ P = ⊤
