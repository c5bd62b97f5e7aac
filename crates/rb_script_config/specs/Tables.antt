-- What the keys of a script's text hold, and what the script is set up with.
use Rattle.std.specs.Prelude.{ℕ, List, [], ◌∷◌, codes, Result, Ok}
use Rattle.toml.specs.Data.{Items, no_items}
use Rattle.toml.specs.View.{items_view}
use Rattle.rb_script_types.specs.Config.{Config}
use Rattle.rb_script_types.specs.Limits.{max_chains, max_clients, max_paths, max_turns}
use Rattle.rb_script_toml.specs.Faults.{Fault, ◌>>=◌}
use Rattle.rb_script_toml.specs.Fields.{Section, only, needs, optional, or_default, array, elements}
use Rattle.rb_script_config.specs.declared.tables.Tables.{Tables as CodeTables}
use Rattle.rb_script_types.specs.declared.version.Version.{Version}
use Rattle.rb_script_config.specs.Versions.{version, max_records}
use Rattle.rb_script_config.specs.Chains.{chain, chain_ids}
use Rattle.rb_script_config.specs.Clients.{client}
use Rattle.rb_script_config.specs.Paths.{path}

abbrev pub top_keys : List (List ℕ)
top_keys = codes "version" ∷ codes "chain" ∷ codes "client" ∷ codes "path" ∷ codes "turn" ∷ []

-- what the keys of the whole text hold
pub record Tables : Type 0 where
  pub version : Version
  pub chains : Items
  pub clients : Items
  pub paths : Items
  pub turns : Items

abbrev pub tables_view : CodeTables → Tables
tables_view t = record {
  version = t.version;
  chains = items_view t.chains.now;
  clients = items_view t.clients.now;
  paths = items_view t.paths.now;
  turns = items_view t.turns.now;
}

unfoldable pub tables : Section → Result Tables Fault
tables s = do
  _ ← only top_keys s
  v ← needs (codes "version") version s
  chains ← or_default no_items (array max_chains) (optional (codes "chain") s)
  clients ← or_default no_items (array max_clients) (optional (codes "client") s)
  paths ← or_default no_items (array max_paths) (optional (codes "path") s)
  turns ← or_default no_items (array max_turns) (optional (codes "turn") s)
  Ok (record { version = v; chains = chains; clients = clients; paths = paths; turns = turns })

-- each table beside those before it
unfoldable pub config : Tables → Result Config Fault
config t = do
  chains ← elements (chain t.version) (codes "chain") [] t.chains
  clients ← elements (client t.version chains) (codes "client") [] t.clients
  paths ← elements (path t.version (chain_ids chains) clients) (codes "path") [] t.paths
  Ok (record { version = t.version; limit = max_records t.version; chains = chain_ids chains; clients = clients; paths = paths })
