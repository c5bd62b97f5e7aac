-- What the first version of the format means, now that there are two.
use Rattle.std.specs.Prelude.{◌≡◌, List, [], codes, All, Ok}
use Rattle.toml.specs.Data.{Items}
use Rattle.rb_script_toml.specs.Fields.{elements}
use Rattle.rb_script_types.specs.declared.version.Version.TheVariants.{One}
use Rattle.rb_script_config.specs.declared.chain.Chain.{Chain}
use Rattle.rb_script_config.specs.Chains.{chain, no_defaults}

-- its chains share nothing, so that each key is the client's own, or has its default
abbrev pub SharesNothing : Type 0
SharesNothing = (ds : Items) (chains : List Chain) → elements (chain One) (codes "chain") [] ds ≡ Ok chains → All (λ c. c.defaults ≡ no_defaults) chains
