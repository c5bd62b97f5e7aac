-- What a relayer is set up with. Chains, clients and paths are named by their places.
use Rattle.std.specs.Prelude.{ℕ, ◌==◌, All, Option, Some, None, if◌then◌else◌}
use Rattle.rb_base.specs.Fee.{IsFeeTable}
use Rattle.rb_script_types.specs.Config.{Config, IsConfig}
use Rattle.rb_script_types.specs.declared.config.ClientConfig.{ClientConfig}
use Rattle.rb_script_types.specs.declared.config.PathConfig.{PathConfig}
use Rattle.rb_base.specs.declared.gate.Part.{Part}
use Rattle.rb_base.specs.declared.gate.Part.TheVariants.{Packets, Channel}

-- the part of what a path owes that is for a client; none where the path isn't one of the client's
abbrev pub part_for : PathConfig → ℕ → Option Part
part_for p client = if p.forward == client then Some Packets else (if p.back == client then Some Channel else None)

-- a configuration by the rules of scripts, whose fees are fee tables
pub record IsSetUp (c : Config) : Type 0 where
  pub rules : IsConfig c
  pub fees : All (λ (client : ClientConfig). IsFeeTable client.fees) c.clients
