-- Why a setup's answers aren't taken: what doesn't hold of those of one of its chains, clients or paths.
use Rattle.std.specs.Prelude.{◌≡◌, ◌⊎◌, ⊤, ℕ, List, Option, IsSomeAnd, Any, slice_get}
use Rattle.std.specs.List.{flat_map}
use Rattle.rb_import_answers.specs.declared.client.ConsensusState.{ConsensusState}
use Rattle.rb_import_answers.specs.declared.commit.SignedHeader.{SignedHeader}
use Rattle.rb_import_setup.specs.declared.setup.ClientSetup.{ClientSetup}
use Rattle.rb_import_setup.specs.declared.setup.PathSetup.{PathSetup}
use Rattle.rb_import_setup.specs.declared.setup.ImportSetup.{ImportSetup}
use Rattle.rb_import_check.specs.declared.chain.SeenChain.{SeenChain}
use Rattle.rb_import_check.specs.declared.client.Stored.{Stored}
use Rattle.rb_import_check.specs.declared.error.CheckErrorName.{CheckErrorName}
use Rattle.rb_import_check.specs.declared.error.ImportError.{ImportError}
use Rattle.rb_import_check.specs.declared.error.ImportError.TheVariants as errors
use Rattle.rb_import_check.specs.declared.saved.Saved.{Saved}
use Rattle.rb_import_check.specs.declared.saved.SavedAnswers.{SavedAnswers}
use Rattle.rb_import_check.specs.Accord.{NamesDifference}
use Rattle.rb_import_check.specs.Chains.{Filed, filed_of}
use Rattle.rb_import_check.specs.Clients.{FiledState, HasReason, filed_states_in}
use Rattle.rb_import_check.specs.Errors.{IsAt, IsBetween, IsTold, IsToldOf}
use Rattle.rb_import_check.specs.Named.{NamesIn, NamesOf}
use Rattle.rb_import_check.specs.Refusals.{HasReasonOf}
use Rattle.rb_import_merge.specs.Named.{NamesOfPath}
use Rattle.rb_import_merge.specs.Refusals.{HasReasonOfPath}
use Rattle.rb_import_merge.specs.Seen.{answers_at}

-- the record has the time, the root and the next set of the header (ICS 7: a client stores these of a header)
abbrev pub IsOfHeader : SignedHeader → ConsensusState → Type 0
IsOfHeader h s = (s.time ≡ h.time) × (s.root ≡ h.root) × (s.next ≡ h.next)

-- the record isn't that of this header of its height, and the error is between their files, and names the height
abbrev pub NamesRecord : ImportError → FiledState → Filed → Type 0
NamesRecord e s h = (h.0.height ≡ s.0.height) × (¬ IsOfHeader h.0 s.0) × IsAt s.0.height e × IsBetween s.1 h.2 e

-- the problem is that a record that a client's answers tell of isn't that of the header of its height, of which those of the chain tell
abbrev pub IsOfOtherRecord : List Saved → List Saved → ImportError → Type 0
IsOfOtherRecord chain saved e =
    IsTold CheckErrorName.OtherRecord (Any (λ (s : FiledState). Any (NamesRecord e s) (filed_of chain)) (flat_map filed_states_in saved)) e

-- so it is of a client's records and the commits that were seen of the chain that it tracks
abbrev pub IsOfDifference : Option SeenChain → List Stored → ImportError → Type 0
IsOfDifference tracked stored e = IsTold CheckErrorName.OtherRecord (IsSomeAnd tracked (λ (chain : SeenChain). NamesDifference chain.commits.items stored e)) e

-- the error is told of this chain, has its reason in the chain's answers, and names what contradicts there
abbrev pub IsOfChainAnswers : List ℕ → List Saved → ImportError → Type 0
IsOfChainAnswers id saved e = IsToldOf id e × HasReasonOf id saved e × NamesOf id saved e

-- so it is of a client, and of its answers beside those on the chain that it tracks
abbrev pub IsOfClientAnswers : ImportSetup → SavedAnswers → ClientSetup → List Saved → ImportError → Type 0
IsOfClientAnswers setup answers c saved e =
    IsToldOf c.id e
    × (IsSomeAnd (slice_get setup.chains.items c.tracks) (λ tracked. HasReason c tracked saved e × NamesIn tracked saved e)
    ⊎ IsOfOtherRecord (answers_at answers.chains.items c.tracks) saved e)

-- so it is of a path
abbrev pub IsOfPathAnswers : PathSetup → List Saved → ImportError → Type 0
IsOfPathAnswers p saved e = IsToldOf p.config.id e × HasReasonOfPath p saved e × NamesOfPath p saved e

-- this holds of an object at some place
abbrev pub AtSome : {X : Type 0} → (X → ℕ → Type 0) → List X → Type 0
AtSome Holds xs = (i : ℕ) × IsSomeAnd (slice_get xs i) (λ x. Holds x i)

-- the error is of the answers of a chain, of a client or of a path of the setup
abbrev pub IsOfAnswers : ImportSetup → SavedAnswers → ImportError → Type 0
IsOfAnswers setup answers e =
    AtSome (λ id i. IsOfChainAnswers id (answers_at answers.chains.items i) e) setup.chains.items
    ⊎ AtSome (λ c i. IsOfClientAnswers setup answers c (answers_at answers.clients.items i) e) setup.clients.items
    ⊎ AtSome (λ p i. IsOfPathAnswers p (answers_at answers.paths.items i) e) setup.paths.items

-- the error has its reason in the answers; memory may run out at any
abbrev pub HasReasonIn : ImportSetup → SavedAnswers → ImportError → Type 0
HasReasonIn setup answers (errors.CheckError p) = IsOfAnswers setup answers (errors.CheckError p)
HasReasonIn setup answers errors.NoMemory = ⊤
