-- The script that a setup, the answers of nodes and what was seen in them make, and its text.
use Rattle.std.specs.Prelude.{◌≡◌, ◌≤◌, ℕ, ◌+◌, ◌==◌, if◌then◌else◌, false, List, [], ◌++◌, Ok, length, map, unwrap_or, zip}
use Rattle.std.specs.declared.alloc.Global.{Global}
use Rattle.std.specs.List.{enumerate_from}
use Rattle.rb_base.specs.declared.votes.CarriedVotes.TheVariants.{Cast}
use Rattle.rb_script_types.specs.Config.{Config}
use Rattle.rb_script_types.specs.Script.{Script, Turn, script_view}
use Rattle.rb_script_types.specs.declared.config.ClientConfig.{ClientConfig}
use Rattle.rb_script_types.specs.declared.config.PathConfig.{PathConfig}
use Rattle.rb_script_types.specs.declared.observation.Observation.{Observation}
use Rattle.rb_script_types.specs.declared.script.Script.{Script as CodeScript}
use Rattle.rb_script_types.specs.declared.version.Version.TheVariants.{Four}
use Rattle.rb_script_config.specs.Clients.{default_refresh, refresh_to, ties_of}
use Rattle.rb_script_config.specs.Versions.{max_records}
use Rattle.rb_script_read.specs.Scripts.{script_of}
use Rattle.rb_import_setup.specs.Documents.{max_bytes}
use Rattle.rb_import_setup.specs.declared.setup.ClientSetup.{ClientSetup}
use Rattle.rb_import_setup.specs.declared.setup.PathSetup.{PathSetup}
use Rattle.rb_import_setup.specs.declared.setup.ImportSetup.{ImportSetup}
use Rattle.rb_import_setup.specs.declared.setup.TurnSetup.{TurnSetup}
use Rattle.rb_import_check.specs.declared.client.SeenClient.{SeenClient}
use Rattle.rb_import_check.specs.declared.saved.SavedAnswers.{SavedAnswers}
use Rattle.rb_import_merge.specs.Pending.{first_of}
use Rattle.rb_import_merge.specs.Seen.{answers_at}
use Rattle.rb_import_merge.specs.declared.seen.SeenSetup.{SeenSetup}
use Rattle.rb_import.specs.Events.{events_in}
use Rattle.rb_import.specs.Openings.{opening_of}
use Rattle.rb_import.specs.Texts.{heading}

-- a client, which judges headers as the setup says, or else its state
abbrev pub client_in : ClientSetup × SeenClient → ClientConfig
client_in p = record {
  id = p.0.id;
  host = p.0.host;
  tracks = p.0.tracks;
  options = record {
    period = p.1.period;
    drift = p.1.drift;
    trust = record { numerator = p.1.trust.numerator; denominator = p.1.trust.denominator };
    votes = Cast;
    ties = ties_of Four;
  };
  refresh = unwrap_or p.0.terms.refresh (default_refresh Four p.1.period);
  refresh_to = refresh_to Four;
  fees = p.0.terms.fees;
  gas = p.0.terms.gas;
  limits = p.0.terms.limits;
}

-- a path: its packets below the first sequence are finished and cleared
abbrev pub path_in : SavedAnswers → ℕ × PathSetup → PathConfig
path_in answers p = record p.1.config { first = first_of p.1 (answers_at answers.paths.items p.0) }

abbrev pub config_in : ImportSetup → SavedAnswers → SeenSetup → Config
config_in setup answers seen = record {
  version = Four;
  limit = max_records Four;
  chains = setup.chains.items;
  clients = map client_in (zip setup.clients.items seen.clients.items);
  paths = map (path_in answers) (enumerate_from 0 setup.paths.items);
}

-- a turn with these events
abbrev pub turn_with : List (Observation Global) → TurnSetup → Turn Global
turn_with events t = record { window = t.window; windows = t.windows.items; goals = t.goals.items; events = events; settlements = t.settlements.items; taken = false }

-- the last of so many turns has what was seen
abbrev pub turn_in : ImportSetup → SeenSetup → ℕ × TurnSetup → Turn Global
turn_in setup seen p = turn_with (if p.0 + 1 == length setup.turns.items then events_in setup seen else []) p.1

-- the script of version 4
unfoldable pub script_in : ImportSetup → SavedAnswers → SeenSetup → Script Global
script_in setup answers seen = record { config = config_in setup answers seen; turns = map (turn_in setup seen) (enumerate_from 0 setup.turns.items) }

-- ---- its text

-- the script is that of what was seen
abbrev pub IsMadeOf : ImportSetup → SavedAnswers → SeenSetup → CodeScript Global → Type 0
IsMadeOf setup answers seen script = script_view script ≡ script_in setup answers seen

-- behind the opening line and the heading stand tables
abbrev pub BeginsAs : SavedAnswers → SeenSetup → List ℕ → Type 0
BeginsAs answers seen text = (tables : List ℕ) × (text ≡ opening_of answers seen ++ heading ++ tables)

-- the reader reads the text as the script of what was seen; it is no longer than is read
unfoldable pub IsFitting : ImportSetup → SavedAnswers → SeenSetup → List ℕ → Type 0
IsFitting setup answers seen text =
    (script_of text ≡ Ok (script_in setup answers seen)) × BeginsAs answers seen text × (length text ≤ max_bytes)
