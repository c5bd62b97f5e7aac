-- what a relayer is set up with. Chains, clients and paths are named by their places.
use Rattle.std.specs.Prelude.{◌≡◌, ◌≢◌, ℕ, ◌<◌, ◌≤◌, List, length, All, AllPairs, IsSomeAnd, slice_get}
use Rattle.rb_script_types.specs.declared.config.ClientConfig.{ClientConfig}
use Rattle.rb_script_types.specs.declared.config.PathConfig.{PathConfig}
use Rattle.rb_script_types.specs.declared.config.Config.{Config as CodeConfig}
use Rattle.rb_script_types.specs.declared.version.Version.{Version}
use Rattle.rb_script_types.specs.Limits.{max_chains, max_clients, max_paths, max_records}

-- the version, how many records a book may have, the identifiers of the chains, the clients and the paths
pub record Config : Type 0 where
  pub version : Version
  pub limit : ℕ
  pub chains : List (List ℕ)
  pub clients : List ClientConfig
  pub paths : List PathConfig

abbrev pub config_view : {A : Type 0} → CodeConfig A → Config
config_view c = record { version = c.version; limit = c.limit; chains = c.chains.items; clients = c.clients.items; paths = c.paths.items }

-- ---- what every configuration keeps

-- a client is hosted on one of so many chains and tracks another
pub record IsClient (chains : ℕ) (c : ClientConfig) : Type 0 where
  pub host : c.host < chains
  pub tracks : c.tracks < chains
  pub different : c.host ≢ c.tracks

-- the client at a place is hosted on the one chain and tracks the other
abbrev pub Connects : List ClientConfig → ℕ → ℕ → ℕ → Type 0
Connects clients place host tracks = IsSomeAnd (slice_get clients place) (λ (c : ClientConfig). (c.host ≡ host) × (c.tracks ≡ tracks))

-- a path leads from one chain to another; its forward client is hosted on the destination and tracks the source, its back
-- client is hosted on the source and tracks the destination (ICS 4)
pub record IsPathConfig (chains : ℕ) (clients : List ClientConfig) (p : PathConfig) : Type 0 where
  pub source : p.source < chains
  pub destination : p.destination < chains
  pub different : p.source ≢ p.destination
  pub forward : Connects clients p.forward p.destination p.source
  pub back : Connects clients p.back p.source p.destination

-- no more than is allowed, identifiers differ, and what is named is there
pub record IsConfig (c : Config) : Type 0 where
  pub limit : (1 ≤ c.limit) × (c.limit ≤ max_records)
  pub few_chains : length c.chains ≤ max_chains
  pub few_clients : length c.clients ≤ max_clients
  pub few_paths : length c.paths ≤ max_paths
  pub chain_ids : AllPairs (λ (a b : List ℕ). a ≢ b) c.chains
  pub client_ids : AllPairs (λ (a b : ClientConfig). a.id ≢ b.id) c.clients
  pub path_ids : AllPairs (λ (a b : PathConfig). a.id ≢ b.id) c.paths
  pub clients : All (IsClient (length c.chains)) c.clients
  pub paths : All (IsPathConfig (length c.chains) c.clients) c.paths
