-- The answers of a setup's chains, clients and paths.
use Rattle.std.specs.Prelude.{◌≡◌, ◌==◌, ℕ, Bool, true, List, [], ◌∷◌, Vec, Ok, Option, MatchOption, map, filter, option_map, slice_get}
use Rattle.std.specs.Global.{Global}
use Rattle.std.specs.List.{AllZip, enumerate_from, list_any}
use Rattle.rb_import_answers.specs.Revisions.{IsRevision}
use Rattle.rb_import_check.specs.declared.saved.Saved.{Saved}
use Rattle.rb_import_setup.specs.Paths.{path_view}
use Rattle.rb_import_setup.specs.Rests.{left_turn, moved_path}
use Rattle.rb_import_setup.specs.Rests as rests
use Rattle.rb_import_setup.specs.Senders.{sender_view}
use Rattle.rb_import_setup.specs.Setups.{setup_of, setup_view}
use Rattle.rb_import_setup.specs.Turns.{turn_view}
use Rattle.rb_import_setup.specs.declared.setup.ClientSetup.{ClientSetup}
use Rattle.rb_import_setup.specs.declared.setup.PathSetup.{PathSetup}
use Rattle.rb_import_setup.specs.declared.setup.ImportSetup.{ImportSetup}
use Rattle.rb_import_check.specs.declared.signed.Signatures.{Signatures}
use Rattle.rb_script_types.specs.declared.script.Script.{Script}
use Rattle.ibcplan_folders.specs.Files.{IsMadeOf}
use Rattle.ibcplan_folders.specs.Folders.{AnswerFile, AreAnswersIn, OfKnown}
use Rattle.ibcplan_folders.specs.declared.reading.Votes.TheVariants.{LeftOut}
use Rattle.ibcplan_folders.specs.declared.left_out.Fleet.{Fleet}

-- whether a client tracks the chain at a place
abbrev pub is_tracked : List ClientSetup → ℕ → Bool
is_tracked clients place = list_any (λ c. c.tracks == place) clients

-- of each client of a setup whether it stays where the answers of an identifier are refused
abbrev pub staying : ImportSetup → List ℕ → List Bool
staying s id = map (rests.client_stays s.chains.items id) s.clients.items

-- what is left of a setup there
pub record IsWithout (id : List ℕ) (s rest : ImportSetup) : Type 0 where
  pub chains : rest.chains.items ≡ s.chains.items
  pub senders : map (option_map sender_view) rest.senders.items ≡ map (option_map sender_view) s.senders.items
  pub clients : rest.clients.items ≡ filter (rests.client_stays s.chains.items id) s.clients.items
  pub paths : map path_view rest.paths.items ≡ map (moved_path (staying s id)) (filter (rests.path_stays (staying s id) id) s.paths.items)
  pub turns : map turn_view rest.turns.items ≡ map (left_turn (staying s id)) s.turns.items

-- and where those of several are, one after the other
abbrev pub IsSetupLeft : List (List ℕ) → ImportSetup → ImportSetup → Type 0
IsSetupLeft [] s rest = s ≡ rest
IsSetupLeft (id ∷ ids) s rest = (next : ImportSetup) × IsWithout id s next × IsSetupLeft ids next rest

abbrev pub IsRestOf : ImportSetup → ImportSetup → Type 0
IsRestOf s rest = (ids : List (List ℕ)) × IsSetupLeft ids s rest

-- ---- which answers a fleet has, by what is said of those of an identifier

-- those of each chain that a client tracks
abbrev pub ChainHas : (ℕ → List ℕ → Vec Saved Global → Type 0) → List ClientSetup → ℕ × List ℕ → Vec Saved Global → Type 0
ChainHas Has clients p saved = is_tracked clients p.0 ≡ true → Has 0 p.1 saved

abbrev pub ChainsHave : (ℕ → List ℕ → Vec Saved Global → Type 0) → Fleet → Type 0
ChainsHave Has f = AllZip (ChainHas Has f.setup.clients.items) (enumerate_from 0 f.setup.chains.items) f.answers.chains.items

-- the revision of the chain that a client tracks
abbrev pub IsSince : List (List ℕ) → ClientSetup → ℕ → Type 0
IsSince chains c since = MatchOption (slice_get chains c.tracks) (since ≡ 0) (λ chain. IsRevision chain since)

-- those of each client, without its records of revisions before that
abbrev pub ClientHas : (ℕ → List ℕ → Vec Saved Global → Type 0) → List (List ℕ) → ClientSetup → Vec Saved Global → Type 0
ClientHas Has chains c saved = (since : ℕ) × IsSince chains c since × Has since c.id saved

abbrev pub ClientsHave : (ℕ → List ℕ → Vec Saved Global → Type 0) → Fleet → Type 0
ClientsHave Has f = AllZip (ClientHas Has f.setup.chains.items) f.setup.clients.items f.answers.clients.items

-- those of each path
abbrev pub path_ids : List PathSetup → List (List ℕ)
path_ids paths = map (λ p. p.config.id) paths

abbrev pub PathsHave : (ℕ → List ℕ → Vec Saved Global → Type 0) → Fleet → Type 0
PathsHave Has f = AllZip (Has 0) (path_ids f.setup.paths.items) f.answers.paths.items

-- the answers are what the files of the identifier's folder tell, if files are known
abbrev pub AreTold : Option (List AnswerFile) → ℕ → List ℕ → Vec Saved Global → Type 0
AreTold known since id saved = OfKnown known (λ files. AreAnswersIn LeftOut since id files saved.items)

-- the fleet is what is left of the setup of a text, with what the files tell of its chains, clients and paths; where the status is 0 nothing is left out
pub record IsFleetOf (known : Option (List AnswerFile)) (bytes : List ℕ) (status : ℕ) (f : Fleet) : Type 0 where
  pub setup : ImportSetup
  pub read : setup_of bytes ≡ Ok (setup_view setup)
  pub rest : IsRestOf setup f.setup
  pub whole : status ≡ 0 → f.setup ≡ setup
  pub chains : ChainsHave (AreTold known) f
  pub clients : ClientsHave (AreTold known) f
  pub paths : PathsHave (AreTold known) f

-- the script is that of such a fleet
pub record IsMadeBy (known : Option (List AnswerFile)) (bytes : List ℕ) (signatures : Signatures) (status : ℕ) (script : Script Global) : Type 0 where
  pub fleet : Fleet
  pub is_fleet : IsFleetOf known bytes status fleet
  pub is_made : IsMadeOf fleet signatures script
