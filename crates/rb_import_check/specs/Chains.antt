-- What was seen of a chain (CometBFT's `/commit` and `/validators`).
use Rattle.std.specs.Prelude.{◌≡◌, ◌≢◌, ◌⊎◌, ◌<◌, ◌≤◌, ◌==◌, ◌++◌, ℕ, List, [], ◌∷◌, All, Contains, IfSome, count_by, length, map, filter, find, Option, option_map, string_bytes}
use Rattle.std.specs.List.{AllZip, flat_map}
use Rattle.std.specs.List.Sorted.{IsPermutation, IsStrictlyIncreasing}
use Rattle.rb_valset.specs.Validator.{Member, address_of}
use Rattle.rb_valset.specs.ValidatorSet.{set_hash, in_set_order}
use Rattle.rb_import_answers.specs.declared.answer.NodeAnswer.{NodeAnswer}
use Rattle.rb_import_answers.specs.declared.answer.NodeAnswer.TheVariants as answers
use Rattle.rb_import_answers.specs.declared.commit.Signature.{Signature}
use Rattle.rb_import_answers.specs.declared.commit.SignedHeader.{SignedHeader}
use Rattle.rb_import_answers.specs.declared.validators.ValidatorsPage.{ValidatorsPage}
use Rattle.rb_import_answers.specs.declared.verdicts.Verdicts.{Verdicts}
use Rattle.rb_import_check.specs.declared.saved.Saved.{Saved}
use Rattle.rb_import_check.specs.declared.chain.Commit.{Commit}
use Rattle.rb_import_check.specs.declared.chain.Page.{Page}
use Rattle.rb_import_check.specs.declared.error.CheckErrorName.{CheckErrorName}
use Rattle.rb_import_check.specs.declared.sets.SeenSet.{SeenSet}
use Rattle.rb_import_check.specs.Sets.{WasSeen}
use Rattle.rb_import_check.specs.Verdicts.{IsVerdictOn, HasVotes, verdict_list, verdicts_of}

abbrev pub headers_in : NodeAnswer → List SignedHeader
headers_in (answers.Commit header) = header ∷ []
headers_in (answers.Validators page) = []
headers_in (answers.ClientState state) = []
headers_in (answers.ConsensusStates page) = []
headers_in (answers.Transactions page) = []
headers_in (answers.Pending p) = []
headers_in (answers.Verdicts v) = []
headers_in (answers.Other query) = []

-- the headers that a chain's answers tell of, in their order
abbrev pub headers_of : List Saved → List SignedHeader
headers_of saved = flat_map (λ s. headers_in s.answer) saved

-- the commits have these headers, each once
abbrev pub HaveHeaders : List SignedHeader → List Commit → Type 0
HaveHeaders headers commits = IsPermutation headers (map (λ (c : Commit). c.header.now) commits)

-- a header, the SHA-256 of its file, and the file's name
abbrev pub Filed : Type 0
Filed = SignedHeader × List ℕ × List ℕ

-- the headers that a chain's answers tell of, each with its file
abbrev pub filed_of : List Saved → List Filed
filed_of saved = flat_map (λ s. map (λ h. (h, s.digest, string_bytes s.file)) (headers_in s.answer)) saved

abbrev pub filed : Commit → Filed
filed c = (c.header.now, c.digest, c.file.now)

-- the commits are those of these files
abbrev pub AreOfFiles : List Filed → List Commit → Type 0
AreOfFiles files commits = IsPermutation files (map filed commits)

-- the commit has a verdict on its file that is among these, and none only where none is on it; and it tells of as many votes as the commit has
unfoldable pub IsJudgedBy : List Verdicts → Commit → Type 0
IsJudgedBy verdicts c =
    IsVerdictOn (verdict_list verdicts) c.digest (option_map (λ v. v.now) c.verdict)
    × HasVotes (length c.header.now.signatures.items) (option_map (λ v. v.now) c.verdict)

-- the commit has the verdict on its file that the chain's answers hold
abbrev pub IsJudged : List Saved → Commit → Type 0
IsJudged saved c = IsJudgedBy (verdicts_of saved) c

abbrev pub IsOfChain : List ℕ → Commit → Type 0
IsOfChain id c = c.header.now.chain ≡ id

-- the commit is one of these, of this height
abbrev pub IsAmong : List Commit → ℕ → Commit → Type 0
IsAmong commits height c = Contains commits c × (c.header.now.height ≡ height)

-- the time of the block at a height, by the header of that height among these
abbrev pub block_time : List Commit → ℕ → Option ℕ
block_time commits height = option_map (λ (c : Commit). c.header.now.time) (find (λ (c : Commit). c.header.now.height == height) commits)

-- the commit is for the block whose hash the header has
abbrev pub IsOfItsBlock : Commit → Type 0
IsOfItsBlock c = c.header.now.hash ≡ c.header.now.block

-- the signature is absent, or of this member: it has the member's address
unfoldable pub IsAbsentOrOf : Signature → Member → Type 0
IsAbsentOrOf s m = IfSome s.address (λ address. address ≡ address_of m.key)

-- the set that the header names was seen: its hash is `validators_hash`, and each signature is absent or of the member at its place
-- (CometBFT: a commit has a signature for each validator, in set order)
unfoldable pub HasSet : List SeenSet → Commit → Type 0
HasSet sets c = (s : SeenSet) × Contains sets s × (set_hash s.set ≡ c.header.now.set) × AllZip IsAbsentOrOf c.header.now.signatures.items s.set

-- the set that the header names isn't among these
abbrev pub IsBare : List SeenSet → Commit → Type 0
IsBare sets c = ¬ WasSeen sets c.header.now.set

-- the header's set isn't among these, or it is, and the signatures fit it
abbrev pub FitsSet : List SeenSet → Commit → Type 0
FitsSet sets c = IsBare sets c ⊎ HasSet sets c

-- how signatures don't fit a set, by the name that is told
abbrev pub Differ : CheckErrorName → List Signature → List Member → Type 0
Differ CheckErrorName.SignatureCount signatures set = length signatures ≢ length set
Differ CheckErrorName.OtherSigner signatures set = (length signatures ≡ length set) × (¬ AllZip IsAbsentOrOf signatures set)
Differ _ signatures set = ⊥

-- ---- the sets of a chain

-- the pages that these files hold
abbrev pub without_files : List Page → List ValidatorsPage
without_files pages = map (λ (p : Page). p.page.now) pages

-- the validators of these pages, in their order
abbrev pub validators_of : List ValidatorsPage → List Member
validators_of pages = flat_map (λ p. p.validators.items) pages

-- there are pages, and they have as many validators as each says that there are (CometBFT's `total`)
abbrev pub AreAllPages : List ValidatorsPage → Type 0
AreAllPages pages = (0 < length pages) × All (λ p. p.total ≡ length (validators_of pages)) pages

-- these are all pages, and it is the set of their validators
abbrev pub IsSetOf : List ValidatorsPage → List Member → Type 0
IsSetOf pages set = AreAllPages pages × (set ≡ in_set_order (validators_of pages))

abbrev pub pages_in : NodeAnswer → List ValidatorsPage
pages_in (answers.Commit header) = []
pages_in (answers.Validators page) = page ∷ []
pages_in (answers.ClientState state) = []
pages_in (answers.ConsensusStates page) = []
pages_in (answers.Transactions page) = []
pages_in (answers.Pending p) = []
pages_in (answers.Verdicts v) = []
pages_in (answers.Other query) = []

-- the pages of validators that a chain's answers tell of, in their order
abbrev pub pages_of : List Saved → List ValidatorsPage
pages_of saved = flat_map (λ s. pages_in s.answer) saved

-- those of a height
abbrev pub pages_at : List Saved → ℕ → List ValidatorsPage
pages_at saved height = filter (λ p. p.height == height) (pages_of saved)

abbrev pub validators_at : List Saved → ℕ → List Member
validators_at saved height = validators_of (pages_at saved height)

-- the answers have all the validators of this height
abbrev pub AreWhole : List Saved → ℕ → Type 0
AreWhole saved height = AreAllPages (pages_at saved height)

-- the commit is of another height, or these aren't all the validators of its height, or they make the set that its header names
unfoldable pub HasValidators : List ValidatorsPage → ℕ → Commit → Type 0
HasValidators pages height c =
    c.header.now.height ≡ height → AreAllPages pages → set_hash (in_set_order (validators_of pages)) ≡ c.header.now.set

-- where the answers have all the validators of the commit's height, these make the set that its header names
unfoldable pub HasItsValidators : List Saved → Commit → Type 0
HasItsValidators saved c =
    AreWhole saved c.header.now.height → set_hash (in_set_order (validators_at saved c.header.now.height)) ≡ c.header.now.set

-- it is the set of all the validators of this height
abbrev pub IsSetAt : List Saved → ℕ → List Member → Type 0
IsSetAt saved height set = IsSetOf (pages_at saved height) set

-- the set of these pages, which are all, came to those that were seen, or none did
abbrev pub TakesSetOf : List ValidatorsPage → List SeenSet → List SeenSet → Type 0
TakesSetOf pages before after = (after ≡ before) ⊎ ((s : SeenSet) × IsSetOf pages s.set × (after ≡ before ++ s ∷ []))

-- each of these is the set of all the validators of a height, by rising heights
abbrev pub AreSetsAt : List Saved → List ℕ → List SeenSet → Type 0
AreSetsAt saved heights sets = IsStrictlyIncreasing heights × AllZip (λ height (s : SeenSet). IsSetAt saved height s.set) heights sets

-- these are the sets that a chain's answers tell of: each is that of all the validators of some height, by rising heights, and where the
-- answers have all the validators of a height, a set with the hash of theirs is among them
unfoldable pub HaveSets : List Saved → List SeenSet → Type 0
HaveSets saved sets =
    ((heights : List ℕ) × AreSetsAt saved heights sets)
    × ((height : ℕ) → AreWhole saved height → WasSeen sets (set_hash (in_set_order (validators_at saved height))))

-- what holds of a header that is left out, as of one that isn't: it has the verdict on its file, is of this chain and of the block that its commit
-- is for, and its set is that of its height's validators, where all of them are there
abbrev pub IsLeftOut : List ℕ → List Saved → Commit → Type 0
IsLeftOut id saved c = IsJudged saved c × IsOfChain id c × IsOfItsBlock c × HasItsValidators saved c

-- no two of these headers are of one height
abbrev pub AreOfDifferentHeights : List SignedHeader → Type 0
AreOfDifferentHeights headers = (height : ℕ) → count_by (λ (h : SignedHeader). h.height == height) headers ≤ 1
