-- The tables of chains: their identifiers, and who sends transactions to them.
use Rattle.std.specs.Prelude.{ℕ, List, [], ◌∷◌, codes, Result, Ok}
use Rattle.rb_script_toml.specs.Faults.{Fault, ◌>>=◌}
use Rattle.rb_script_toml.specs.Fields.{Section, only, needs}
use Rattle.rb_script_config.specs.declared.chain.Chain.{Chain}
use Rattle.rb_script_config.specs.Chains.{chain_ids, no_defaults}
use Rattle.rb_script_config.specs.Named.{new_identifier}

abbrev pub chain_keys : List (List ℕ)
chain_keys = codes "id" ∷ codes "signer" ∷ codes "fee_denom" ∷ codes "gas_price" ∷ codes "gas_factor" ∷ codes "client_message" ∷ []

-- a chain, which shares nothing with clients, beside those before it
unfoldable pub chain : List Chain → Section → Result Chain Fault
chain before s = do
  _ ← only chain_keys s
  id ← needs (codes "id") (new_identifier (chain_ids before)) s
  Ok (record { id = id; defaults = no_defaults })
