-- What was seen of a client (ibc-go's `client_states/ID` and `consensus_states/ID`).
use Rattle.std.specs.Prelude.{option_map, ◌≡◌, ◌≢◌, ◌⊎◌, ◌+◌, ◌<◌, ◌≤◌, ⊤, ℕ, List, [], ◌∷◌, Bool, true, false, Option, Some, None, All, Any, Contains, length, map, filter, nat_le, slice_index, string_bytes}
use Rattle.std.specs.List.{flat_map, list_any}
use Rattle.std.specs.List.Sorted.{IsPermutation}
use Rattle.rb_import_answers.specs.declared.answer.NodeAnswer.{NodeAnswer}
use Rattle.rb_import_answers.specs.declared.answer.NodeAnswer.TheVariants as answers
use Rattle.rb_import_answers.specs.declared.client.TendermintClientState.{TendermintClientState}
use Rattle.rb_import_answers.specs.declared.client.ConsensusState.{ConsensusState}
use Rattle.rb_import_answers.specs.declared.client.TrustLevel.{TrustLevel}
use Rattle.rb_import_answers.specs.Revisions.{IsRevision}
use Rattle.rb_import_setup.specs.declared.setup.ClientSetup.{ClientSetup}
use Rattle.rb_import_setup.specs.declared.setup.TrustSetup.{TrustSetup}
use Rattle.rb_import_check.specs.declared.client.SeenClient.{SeenClient}
use Rattle.rb_import_check.specs.declared.client.Stored.{Stored}
use Rattle.rb_import_check.specs.declared.saved.Saved.{Saved}
use Rattle.rb_import_check.specs.declared.error.CheckErrorName.{CheckErrorName}
use Rattle.rb_import_check.specs.declared.error.ImportError.{ImportError}
use Rattle.rb_import_check.specs.declared.error.ImportError.TheVariants as errors

-- the record is of the revision of the chain that the client tracks (ICS 2: heights are compared within one revision)
abbrev pub IsOfRevision : List ℕ → Stored → Type 0
IsOfRevision tracked s = IsRevision tracked s.state.now.revision

abbrev pub client_states_in : NodeAnswer → List TendermintClientState
client_states_in (answers.Commit header) = []
client_states_in (answers.Validators page) = []
client_states_in (answers.ClientState state) = state ∷ []
client_states_in (answers.ConsensusStates page) = []
client_states_in (answers.Transactions page) = []
client_states_in (answers.Pending p) = []
client_states_in (answers.Verdicts v) = []
client_states_in (answers.Other query) = []

-- the client states that a client's answers tell of
abbrev pub client_states_of : List Saved → List TendermintClientState
client_states_of saved = flat_map (λ s. client_states_in s.answer) saved

-- what the setup gives, or else what the first client state gives
abbrev pub chosen : {A : Type 0} → Option A → (TendermintClientState → A) → List TendermintClientState → Option A
chosen (Some x) get states = Some x
chosen None get [] = None
chosen None get (s ∷ states) = Some (get s)

-- a trust level, as a client state has it
abbrev pub level_of : TrustSetup → TrustLevel
level_of t = record { numerator = t.numerator; denominator = t.denominator }

abbrev pub JudgesAs : ClientSetup → List TendermintClientState → SeenClient → Type 0
JudgesAs setup states c =
    (chosen setup.period (λ s. s.period) states ≡ Some c.period)
    × (chosen setup.drift (λ s. s.drift) states ≡ Some c.drift)
    × (chosen (option_map level_of setup.trust) (λ s. s.trust) states ≡ Some c.trust)

abbrev pub stored_in : NodeAnswer → List ConsensusState
stored_in (answers.Commit header) = []
stored_in (answers.Validators page) = []
stored_in (answers.ClientState state) = []
stored_in (answers.ConsensusStates page) = page.states.items
stored_in (answers.Transactions page) = []
stored_in (answers.Pending p) = []
stored_in (answers.Verdicts v) = []
stored_in (answers.Other query) = []

-- the records that a client's answers tell of, in their order
abbrev pub stored_of : List Saved → List ConsensusState
stored_of saved = flat_map (λ s. stored_in s.answer) saved

-- those of the records that aren't of a revision before this one: ibc-go takes no update from such
abbrev pub current_of : ℕ → List Saved → List ConsensusState
current_of revision saved = filter (λ (s : ConsensusState). nat_le revision s.revision) (stored_of saved)

-- a record, and the name of its file
abbrev pub FiledState : Type 0
FiledState = ConsensusState × List ℕ

-- the records that an answer tells of, each with its file
abbrev pub filed_states_in : Saved → List FiledState
filed_states_in saved = map (λ s. (s, string_bytes saved.file)) (stored_in saved.answer)

-- the records that a client's answers tell of, each with its file, without those of a revision before this one
abbrev pub filed_states_of : ℕ → List Saved → List FiledState
filed_states_of revision saved = filter (λ (f : FiledState). nat_le revision f.0.revision) (flat_map filed_states_in saved)

abbrev pub filed_state : Stored → FiledState
filed_state s = (s.state.now, s.file.now)

-- the records are those of these files, in some order
abbrev pub AreFilesInSomeOrder : List FiledState → List Stored → Type 0
AreFilesInSomeOrder files stored = IsPermutation files (map filed_state stored)

-- each record is of one of these files
abbrev pub AreStatesOfFiles : List FiledState → List Stored → Type 0
AreStatesOfFiles files stored = All (λ s. Contains files (filed_state s)) stored

-- this holds at the revision number of the chain that the client tracks
abbrev pub AtRevision : List ℕ → (ℕ → Type 0) → Type 0
AtRevision tracked P = (revision : ℕ) × IsRevision tracked revision × P revision

-- these are the records, in some order
abbrev pub AreStatesInSomeOrder : List ConsensusState → List Stored → Type 0
AreStatesInSomeOrder states stored = IsPermutation states (map (λ (s : Stored). s.state.now) stored)

-- these are the records; of those that say the same one is enough (a gateway may repeat a record on the next page)
abbrev pub HaveStates : List ConsensusState → List Stored → Type 0
HaveStates states stored =
    All (λ (s : Stored). Contains states s.state.now) stored × All (Contains (map (λ (s : Stored). s.state.now) stored)) states

abbrev pub is_last_in : NodeAnswer → Bool
is_last_in (answers.Commit header) = false
is_last_in (answers.Validators page) = false
is_last_in (answers.ClientState state) = false
is_last_in (answers.ConsensusStates page) = page.is_last
is_last_in (answers.Transactions page) = false
is_last_in (answers.Pending p) = false
is_last_in (answers.Verdicts v) = false
is_last_in (answers.Other query) = false

-- the last page of records is among a client's answers
abbrev pub has_last : List Saved → Bool
has_last saved = list_any (λ s. is_last_in s.answer) saved

-- ---- why a client's answers aren't taken

-- whether an answer belongs into a client's folder
abbrev pub is_of_client : NodeAnswer → Bool
is_of_client (answers.Commit header) = false
is_of_client (answers.Validators page) = false
is_of_client (answers.ClientState state) = true
is_of_client (answers.ConsensusStates page) = true
is_of_client (answers.Transactions page) = false
is_of_client (answers.Pending p) = false
is_of_client (answers.Verdicts v) = false
is_of_client (answers.Other query) = true

-- each answer belongs into a client's folder
unfoldable pub AreOfClient : List Saved → Type 0
AreOfClient saved = All (λ s. is_of_client s.answer ≡ true) saved

-- a client state is on this chain, and of its revision (ICS 7: a client tracks one chain)
unfoldable pub IsOnChain : List ℕ → TendermintClientState → Type 0
IsOnChain tracked s = (s.chain ≡ tracked) × IsRevision tracked s.revision

-- one answer at most tells the client's state, on this chain
abbrev pub AreStatesOn : List ℕ → List Saved → Type 0
AreStatesOn tracked saved = (length (client_states_of saved) ≤ 1) × All (IsOnChain tracked) (client_states_of saved)

-- a client state is of another revision than the tracked chain's, or a record of a later one
abbrev pub HasOtherRevision : List ℕ → List Saved → Type 0
HasOtherRevision tracked saved =
    Any (λ s. ¬ IsRevision tracked s.revision) (client_states_of saved)
    ⊎ AtRevision tracked (λ revision. Any (λ s. revision < s.revision) (stored_of saved))

-- two records of one height differ
abbrev pub HasTwoRecords : List ConsensusState → Type 0
HasTwoRecords states = Any (λ (a : ConsensusState). Any (λ (b : ConsensusState). (a.height ≡ b.height) × (a ≢ b)) states) states

-- there are two client states, or two different records of one height that aren't of an earlier revision
abbrev pub TellsTwice : List ℕ → List Saved → Type 0
TellsTwice tracked saved =
    (1 < length (client_states_of saved)) ⊎ AtRevision tracked (λ revision. HasTwoRecords (current_of revision saved))

-- a height isn't above the one before it
abbrev pub Falls : List ℕ → Type 0
Falls heights = (i : ℕ) × (i + 1 < length heights) × (slice_index heights (i + 1) ≤ slice_index heights i)

-- the setup leaves out what judges headers
abbrev pub LeavesOut : ClientSetup → Type 0
LeavesOut setup = (setup.period ≡ None) ⊎ (setup.drift ≡ None) ⊎ (setup.trust ≡ None)

-- what doesn't hold of a client's answers, by the name that is told; no other name is
abbrev pub Refuses : CheckErrorName → ClientSetup → List ℕ → List Saved → Type 0
Refuses CheckErrorName.WrongFolder setup tracked saved = Any (λ s. is_of_client s.answer ≡ false) saved
Refuses CheckErrorName.OtherChain setup tracked saved = Any (λ s. s.chain ≢ tracked) (client_states_of saved)
Refuses CheckErrorName.OtherRevision setup tracked saved = HasOtherRevision tracked saved
Refuses CheckErrorName.TwoAnswers setup tracked saved = TellsTwice tracked saved
Refuses CheckErrorName.MissingConsensusStates setup tracked saved = has_last saved ≡ false
Refuses CheckErrorName.MissingClientState setup tracked saved = LeavesOut setup × (client_states_of saved ≡ [])
Refuses other setup tracked saved = ⊥

-- the error has its reason in the answers; memory may run out at any
abbrev pub HasReason : ClientSetup → List ℕ → List Saved → ImportError → Type 0
HasReason setup tracked saved (errors.CheckError p) = Refuses p.name setup tracked saved
HasReason setup tracked saved errors.NoMemory = ⊤
