-- The setup of a text: a script without events.
use Rattle.std.specs.Prelude.{ℕ, List, [], map, codes, Option, option_map, Result, Ok, nat_lt}
use Rattle.toml.specs.Data.{Items, no_items}
use Rattle.toml.specs.View.{items_view}
use Rattle.rb_script_toml.specs.Faults.{Fault, ◌>>=◌, check}
use Rattle.rb_script_toml.specs.Fields.{Section, only, needs, required, optional, or_default, number, array, items_count, elements}
use Rattle.rb_script_toml.specs.declared.fault.FaultName.TheVariants.{BadVersion, MissingKey}
use Rattle.rb_script_toml.specs.Documents.{document}
use Rattle.rb_script_config.specs.Chains.{chain_ids}
use Rattle.rb_script_config.specs.Tables.{top_keys}
use Rattle.rb_script_types.specs.Limits.{max_chains, max_clients, max_paths, max_turns}
use Rattle.rb_import_setup.specs.declared.setup.ClientSetup.{ClientSetup}
use Rattle.rb_import_setup.specs.declared.setup.ImportSetup.{ImportSetup as CodeImportSetup}
use Rattle.rb_import_setup.specs.declared.reading.Tables.{Tables as CodeTables}
use Rattle.rb_import_setup.specs.Chains.{chain}
use Rattle.rb_import_setup.specs.Clients.{client}
use Rattle.rb_import_setup.specs.Paths.{Path, path, path_view}
use Rattle.rb_import_setup.specs.Senders.{Sender, sender_of, sender_view}
use Rattle.rb_import_setup.specs.Turns.{Turn, turn, turn_view}

-- the chains, who sends transactions to each, the clients, paths and turns
pub record ImportSetup : Type 0 where
  pub chains : List (List ℕ)
  pub senders : List (Option Sender)
  pub clients : List ClientSetup
  pub paths : List Path
  pub turns : List Turn

abbrev pub setup_view : CodeImportSetup → ImportSetup
setup_view s = record { chains = s.chains.items; senders = map (option_map sender_view) s.senders.items; clients = s.clients.items; paths = map path_view s.paths.items; turns = map turn_view s.turns.items }

-- what the keys of the whole text hold
pub record Tables : Type 0 where
  pub chains : Items
  pub clients : Items
  pub paths : Items
  pub turns : Items

abbrev pub tables_view : CodeTables → Tables
tables_view t = record { chains = items_view t.chains.now; clients = items_view t.clients.now; paths = items_view t.paths.now; turns = items_view t.turns.now }

-- the turns, of which there has to be one
unfoldable pub some_turns : Section → Result Items Fault
some_turns s = do
  f ← required (codes "turn") s
  turns ← array max_turns f
  _ ← check (nat_lt 0 (items_count turns)) MissingKey f.path
  Ok turns

unfoldable pub tables : Section → Result Tables Fault
tables s = do
  _ ← only top_keys s
  _ ← needs (codes "version") (number 1 1 BadVersion) s
  chains ← or_default no_items (array max_chains) (optional (codes "chain") s)
  clients ← or_default no_items (array max_clients) (optional (codes "client") s)
  paths ← or_default no_items (array max_paths) (optional (codes "path") s)
  turns ← some_turns s
  Ok (record { chains = chains; clients = clients; paths = paths; turns = turns })

-- each table beside those before it; the identifiers of the chains come before who sends to them
unfoldable pub setup : Section → Result ImportSetup Fault
setup s = do
  t ← tables s
  shared ← elements chain (codes "chain") [] t.chains
  let chains = chain_ids shared
  senders ← elements sender_of (codes "chain") [] t.chains
  clients ← elements (client chains) (codes "client") [] t.clients
  paths ← elements (path chains clients) (codes "path") [] t.paths
  turns ← elements (turn chains clients) (codes "turn") [] t.turns
  Ok (record { chains = chains; senders = senders; clients = clients; paths = paths; turns = turns })

-- the setup of a text, or its first fault
unfoldable pub setup_of : List ℕ → Result ImportSetup Fault
setup_of bytes = do
  s ← document bytes
  setup s
