-- What an error on a chain's answers, or on a client's, names: the files and the height, and the other chain or the hashes.
use Rattle.std.specs.Prelude.{◌≡◌, ◌≢◌, ◌⊎◌, ◌+◌, ◌<◌, ◌≤◌, ◌==◌, ⊤, ℕ, List, false, Any, filter, get_or, length, map, string_bytes}
use Rattle.std.specs.List.{flat_map}
use Rattle.rb_valset.specs.ValidatorSet.{set_hash, in_set_order}
use Rattle.rb_import_answers.specs.declared.answer.NodeAnswer.{NodeAnswer}
use Rattle.rb_import_answers.specs.declared.client.TendermintClientState.{TendermintClientState}
use Rattle.rb_import_answers.specs.declared.verdicts.Verdicts.{Verdicts}
use Rattle.rb_import_answers.specs.declared.validators.ValidatorsPage.{ValidatorsPage}
use Rattle.rb_import_answers.specs.Revisions.{IsRevision}
use Rattle.rb_import_check.specs.declared.chain.Commit.{Commit}
use Rattle.rb_import_check.specs.declared.chain.Page.{Page}
use Rattle.rb_import_check.specs.declared.client.Stored.{Stored}
use Rattle.rb_import_check.specs.declared.error.CheckErrorName.{CheckErrorName}
use Rattle.rb_import_check.specs.declared.error.ImportError.{ImportError}
use Rattle.rb_import_check.specs.declared.error.ImportError.TheVariants as errors
use Rattle.rb_import_check.specs.declared.saved.Saved.{Saved}
use Rattle.rb_import_check.specs.declared.sets.SeenSet.{SeenSet}
use Rattle.rb_import_check.specs.Chains.{AreWhole, Differ, Filed, filed_of, pages_in, validators_at}
use Rattle.rb_import_check.specs.Clients.{AtRevision, FiledState, client_states_in, filed_states_of, is_of_client}
use Rattle.rb_import_check.specs.Errors.{BeginsWith, IsAt, IsBetween, IsBetweenTwo, IsIn, IsOfNoHeight, NamesChain, ShowsHashes}
use Rattle.rb_import_check.specs.Refusals.{RefusesCommit, is_of_chain}
use Rattle.rb_import_check.specs.Verdicts.{TellsOtherVotes, verdict_list, verdicts_in, verdicts_of}

-- what answers tell of one kind, each with the name of its file
abbrev pub with_files : {A : Type 0} → (NodeAnswer → List A) → List Saved → List (A × List ℕ)
with_files told saved = flat_map (λ s. map (λ x. (x, string_bytes s.file)) (told s.answer)) saved

-- the verdicts that a chain's answers hold, each with its file
abbrev pub filed_verdicts_of : List Saved → List (Verdicts × List ℕ)
filed_verdicts_of saved = with_files verdicts_in saved

-- the client states that a client's answers tell of, each with its file
abbrev pub filed_client_states_of : List Saved → List (TendermintClientState × List ℕ)
filed_client_states_of saved = with_files client_states_in saved

-- a page of validators, and the name of its file
abbrev pub FiledPage : Type 0
FiledPage = ValidatorsPage × List ℕ

abbrev pub filed_page : Page → FiledPage
filed_page p = (p.page.now, p.file.now)

-- the pages of validators that a chain's answers tell of, each with its file
abbrev pub filed_pages_of : List Saved → List FiledPage
filed_pages_of saved = with_files pages_in saved

-- those of a height
abbrev pub filed_pages_at : List Saved → ℕ → List FiledPage
filed_pages_at saved height = filter (λ (f : FiledPage). f.0.height == height) (filed_pages_of saved)

-- it is between the files of two that follow one another, the second not above the first, and names the first's height; memory may run out
abbrev pub NamesFall : {A : Type 0} → (A → ℕ) → (A → List ℕ) → List A → ImportError → Type 0
NamesFall {A} height file all (errors.CheckError p) =
    (i : ℕ) × (x : A) × (y : A) × (i + 1 < length all) × (x ≡ get_or all i x) × (y ≡ get_or all (i + 1) y) × (height y ≤ height x)
    × IsAt (height x) (errors.CheckError p) × IsBetween (file x) (file y) (errors.CheckError p)
NamesFall height file all errors.NoMemory = ⊤

-- ---- a chain's answers

-- it names the other chain that a header is of, the header's height and file
abbrev pub NamesOtherHeader : List ℕ → Filed → ImportError → Type 0
NamesOtherHeader id f e = (f.0.chain ≢ id) × NamesChain f.0.chain e × IsAt f.0.height e × IsIn f.2 e

-- it shows the hash of a header, that of the block that its commit is for, the header's height and file
abbrev pub ShowsHeader : Filed → ImportError → Type 0
ShowsHeader f e = (f.0.hash ≢ f.0.block) × ShowsHashes f.0.hash f.0.block e × IsAt f.0.height e × IsIn f.2 e

-- it is between the files of two headers of one height, and names the height
abbrev pub NamesTwoHeaders : List Saved → ImportError → Type 0
NamesTwoHeaders saved e = IsBetweenTwo (λ (f : Filed). f.2) (λ f g. (f.0.height ≡ g.0.height) × IsAt f.0.height e) (filed_of saved) e

-- it is between two files of verdicts
abbrev pub NamesTwoVerdicts : List Saved → ImportError → Type 0
NamesTwoVerdicts saved e = IsBetweenTwo (λ (f : Verdicts × List ℕ). f.1) (λ f g. IsOfNoHeight e) (filed_verdicts_of saved) e

-- it is between the files of two pages that tell different totals, and names the height of the first
abbrev pub NamesTwoTotals : List FiledPage → ImportError → Type 0
NamesTwoTotals pages e =
    Any (λ (p : FiledPage). Any (λ (q : FiledPage). (p.0.total ≢ q.0.total) × IsAt p.0.height e × IsBetween p.1 q.1 e) pages) pages

-- it is between the files of two pages, or twice that of one, and names the height of the first
abbrev pub NamesTwoPages : List FiledPage → ImportError → Type 0
NamesTwoPages pages e = Any (λ (p : FiledPage). Any (λ (q : FiledPage). IsAt p.0.height e × IsBetween p.1 q.1 e) pages) pages

-- it is between the files of a header of this height and of a page, and names the height of the page
abbrev pub NamesHeaderAndPage : ℕ → List Filed → List FiledPage → ImportError → Type 0
NamesHeaderAndPage height headers pages e =
    Any (λ (f : Filed). (f.0.height ≡ height) × Any (λ (q : FiledPage). IsAt q.0.height e × IsBetween f.2 q.1 e) pages) headers

-- what an error on the pages of a height names, by its name
abbrev pub NamesPages : CheckErrorName → ℕ → List Filed → List FiledPage → ImportError → Type 0
NamesPages CheckErrorName.OtherTotal height headers pages e = NamesTwoTotals pages e
NamesPages CheckErrorName.TooManyValidators height headers pages e = NamesTwoPages pages e
NamesPages CheckErrorName.BadSet height headers pages e = Any (λ (q : FiledPage). IsAt q.0.height e × IsIn q.1 e) pages
NamesPages CheckErrorName.OtherSet height headers pages e = NamesHeaderAndPage height headers pages e
NamesPages _ height headers pages e = ⊤

-- the same of an error; memory may run out
abbrev pub NamesOfPages : ℕ → List Filed → List FiledPage → ImportError → Type 0
NamesOfPages height headers pages (errors.CheckError p) = NamesPages p.name height headers pages (errors.CheckError p)
NamesOfPages height headers pages errors.NoMemory = ⊤

-- the same of the pages of some height
abbrev pub NamesSomePages : List Filed → List Saved → ImportError → Type 0
NamesSomePages headers saved (errors.CheckError p) = (height : ℕ) × NamesOfPages height headers (filed_pages_at saved height) (errors.CheckError p)
NamesSomePages headers saved errors.NoMemory = ⊤

-- it names the height and the file of a page; memory may run out
abbrev pub IsOfPage : Page → ImportError → Type 0
IsOfPage page (errors.CheckError p) = IsAt page.page.now.height (errors.CheckError p) × IsIn page.file.now (errors.CheckError p)
IsOfPage page errors.NoMemory = ⊤

-- what doesn't hold of a commit and the sets that were seen, and it names the commit's height, and its file first
abbrev pub NamesCommitBy : CheckErrorName → List SeenSet → Commit → ImportError → Type 0
NamesCommitBy name sets c e = RefusesCommit name sets c × IsAt c.header.now.height e × BeginsWith c.file.now e

abbrev pub NamesCommit : List SeenSet → Commit → ImportError → Type 0
NamesCommit sets c (errors.CheckError p) = NamesCommitBy p.name sets c (errors.CheckError p)
NamesCommit sets c errors.NoMemory = ⊥

-- the signatures of the header don't fit its set, and it names the header's height, and its file before that of the set
abbrev pub NamesDiscord : CheckErrorName → List Saved → Filed → ImportError → Type 0
NamesDiscord name saved f e =
    ((height : ℕ) × AreWhole saved height × (set_hash (in_set_order (validators_at saved height)) ≡ f.0.set)
    × Differ name f.0.signatures.items (in_set_order (validators_at saved height)))
    × IsAt f.0.height e × BeginsWith f.2 e

-- what an error names, by its name
abbrev pub Names : CheckErrorName → List ℕ → List Saved → ImportError → Type 0
Names CheckErrorName.WrongFolder id saved e = Any (λ s. (is_of_chain s.answer ≡ false) × IsOfNoHeight e × IsIn (string_bytes s.file) e) saved
Names CheckErrorName.OtherChain id saved e =
    Any (λ f. NamesOtherHeader id f e) (filed_of saved)
    ⊎ Any (λ (f : Verdicts × List ℕ). (f.0.chain ≢ id) × NamesChain f.0.chain e × IsOfNoHeight e × IsIn f.1 e) (filed_verdicts_of saved)
Names CheckErrorName.TwoAnswers id saved e = NamesTwoHeaders saved e ⊎ NamesTwoVerdicts saved e
Names CheckErrorName.OtherHeader id saved e = Any (λ f. ShowsHeader f e) (filed_of saved)
Names CheckErrorName.OtherVerdict id saved e =
    Any (λ f. TellsOtherVotes (verdict_list (verdicts_of saved)) f.1 (length f.0.signatures.items) × IsAt f.0.height e × IsIn f.2 e) (filed_of saved)
Names CheckErrorName.SignatureCount id saved e = Any (λ f. NamesDiscord CheckErrorName.SignatureCount saved f e) (filed_of saved)
Names CheckErrorName.OtherSigner id saved e = Any (λ f. NamesDiscord CheckErrorName.OtherSigner saved f e) (filed_of saved)
Names name id saved e = (height : ℕ) × NamesPages name height (filed_of saved) (filed_pages_at saved height) e

-- the error names what contradicts in a chain's answers
abbrev pub NamesOf : List ℕ → List Saved → ImportError → Type 0
NamesOf id saved (errors.CheckError p) = Names p.name id saved (errors.CheckError p)
NamesOf id saved errors.NoMemory = ⊤

-- ---- a client's answers

-- it names the file of an answer that belongs elsewhere; memory may run out
abbrev pub NamesForeign : List Saved → ImportError → Type 0
NamesForeign saved (errors.CheckError p) =
    Any (λ s. (is_of_client s.answer ≡ false) × IsOfNoHeight (errors.CheckError p) × IsIn (string_bytes s.file) (errors.CheckError p)) saved
NamesForeign saved errors.NoMemory = ⊤

-- it names the file of a client state of another revision than the chain's
abbrev pub NamesOtherState : List ℕ → List Saved → ImportError → Type 0
NamesOtherState tracked saved e =
    Any (λ (f : TendermintClientState × List ℕ). (¬ IsRevision tracked f.0.revision) × IsOfNoHeight e × IsIn f.1 e) (filed_client_states_of saved)

-- it names the height and the file of a record of another revision than this one
abbrev pub NamesOtherRecord : ℕ → FiledState → ImportError → Type 0
NamesOtherRecord revision f e = (f.0.revision ≢ revision) × IsAt f.0.height e × IsIn f.1 e

-- it is between two files of client states
abbrev pub NamesTwoStates : List Saved → ImportError → Type 0
NamesTwoStates saved e = IsBetweenTwo (λ (f : TendermintClientState × List ℕ). f.1) (λ f g. IsOfNoHeight e) (filed_client_states_of saved) e

-- it is between the files of two different records of one height that aren't of a revision before this one, and names the height
abbrev pub NamesTwoRecords : List Saved → ℕ → ImportError → Type 0
NamesTwoRecords saved revision e =
    Any (λ f. Any (λ g. (f.0.height ≡ g.0.height) × (f.0 ≢ g.0) × IsAt f.0.height e × IsBetween f.1 g.1 e) (filed_states_of revision saved))
    (filed_states_of revision saved)

-- it is between the files of these two different records of one height, and names the height
abbrev pub NamesTwo : Stored → Stored → ImportError → Type 0
NamesTwo s t (errors.CheckError p) =
    (p.name ≡ CheckErrorName.TwoAnswers) × (s.state.now.height ≡ t.state.now.height) × (s.state.now ≢ t.state.now)
    × IsAt s.state.now.height (errors.CheckError p) × IsBetween s.file.now t.file.now (errors.CheckError p)
NamesTwo s t errors.NoMemory = ⊥

-- the same of two of these; memory may run out
abbrev pub NamesTwoAmong : List Stored → ImportError → Type 0
NamesTwoAmong told (errors.CheckError p) = Any (λ s. Any (λ t. NamesTwo s t (errors.CheckError p)) told) told
NamesTwoAmong told errors.NoMemory = ⊤

-- what an error names, by its name
abbrev pub NamesByName : CheckErrorName → List ℕ → List Saved → ImportError → Type 0
NamesByName CheckErrorName.WrongFolder tracked saved e = NamesForeign saved e
NamesByName CheckErrorName.OtherChain tracked saved e =
    Any (λ (f : TendermintClientState × List ℕ). (f.0.chain ≢ tracked) × NamesChain f.0.chain e × IsOfNoHeight e × IsIn f.1 e) (filed_client_states_of saved)
NamesByName CheckErrorName.OtherRevision tracked saved e =
    NamesOtherState tracked saved e ⊎ AtRevision tracked (λ revision. Any (λ f. NamesOtherRecord revision f e) (filed_states_of revision saved))
NamesByName CheckErrorName.TwoAnswers tracked saved e = NamesTwoStates saved e ⊎ AtRevision tracked (λ revision. NamesTwoRecords saved revision e)
NamesByName _ tracked saved e = ⊤

-- the error names what contradicts in the answers of a client that tracks this chain
abbrev pub NamesIn : List ℕ → List Saved → ImportError → Type 0
NamesIn tracked saved (errors.CheckError p) = NamesByName p.name tracked saved (errors.CheckError p)
NamesIn tracked saved errors.NoMemory = ⊤
