-- Which chains and clients a setup names.
use Rattle.std.specs.Prelude.{ℕ, ◌<◌, List, All, length}
use Rattle.rb_script_types.specs.declared.config.PathConfig.{PathConfig}
use Rattle.rb_import_setup.specs.declared.setup.ClientSetup.{ClientSetup}
use Rattle.rb_import_setup.specs.declared.setup.PathSetup.{PathSetup}
use Rattle.rb_import_setup.specs.declared.setup.TurnSetup.{TurnSetup}

-- the chains of a client are among so many
pub record IsClientOf (chains : ℕ) (c : ClientSetup) : Type 0 where
  pub host : c.host < chains
  pub tracks : c.tracks < chains

-- the chains of a path are among so many, and so are its clients
pub record IsPathOf (chains clients : ℕ) (p : PathConfig) : Type 0 where
  pub source : p.source < chains
  pub destination : p.destination < chains
  pub forward : p.forward < clients
  pub back : p.back < clients

-- the hosts of a turn's windows are among so many chains, and the clients of its goals and settlements among so many
pub record IsTurnOf (chains clients : ℕ) (t : TurnSetup) : Type 0 where
  pub windows : All (λ w. w.host < chains) t.windows.items
  pub goals : All (λ g. g.client < clients) t.goals.items
  pub settlements : All (λ s. s.client < clients) t.settlements.items

-- each place that is named is the place of a chain, or of a client
pub record ArePlaces (chains : ℕ) (clients : List ClientSetup) (paths : List PathSetup) (turns : List TurnSetup) : Type 0 where
  pub each_client : All (IsClientOf chains) clients
  pub each_path : All (λ p. IsPathOf chains (length clients) p.config) paths
  pub each_turn : All (IsTurnOf chains (length clients)) turns
