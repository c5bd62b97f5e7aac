-- Why a chain's answers aren't taken (CometBFT's `/commit` and `/validators`, and the verdicts on commits).
use Rattle.std.specs.Prelude.{◌≡◌, ◌≢◌, ◌⊎◌, ◌<◌, ◌==◌, ◌++◌, ℕ, List, Bool, true, false, All, Any, Contains, IsSome, length, count_by}
use Rattle.rb_valset.specs.Refusal.{set_refusal}
use Rattle.rb_valset.specs.ValidatorSet.{set_hash, in_set_order}
use Rattle.rb_import_answers.specs.declared.answer.NodeAnswer.{NodeAnswer}
use Rattle.rb_import_answers.specs.declared.answer.NodeAnswer.TheVariants as answers
use Rattle.rb_import_answers.specs.declared.commit.SignedHeader.{SignedHeader}
use Rattle.rb_import_answers.specs.declared.validators.ValidatorsPage.{ValidatorsPage}
use Rattle.rb_import_check.specs.declared.chain.Commit.{Commit}
use Rattle.rb_import_check.specs.declared.error.CheckErrorName.{CheckErrorName}
use Rattle.rb_import_check.specs.declared.error.ImportError.{ImportError}
use Rattle.rb_import_check.specs.declared.saved.Saved.{Saved}
use Rattle.rb_import_check.specs.declared.sets.SeenSet.{SeenSet}
use Rattle.rb_import_check.specs.Chains.{AreAllPages, AreWhole, Differ, Filed, filed_of, headers_of, pages_at, validators_at, validators_of}
use Rattle.rb_import_check.specs.Errors.{IsToldBy}
use Rattle.rb_import_check.specs.Verdicts.{TellsOtherVotes, verdict_list, verdicts_of}

-- whether an answer belongs into a chain's folder
abbrev pub is_of_chain : NodeAnswer → Bool
is_of_chain (answers.Commit header) = true
is_of_chain (answers.Validators page) = true
is_of_chain (answers.ClientState state) = false
is_of_chain (answers.ConsensusStates page) = false
is_of_chain (answers.Transactions page) = false
is_of_chain (answers.Pending p) = false
is_of_chain (answers.Verdicts v) = true
is_of_chain (answers.Other query) = true

-- each answer belongs into a chain's folder
unfoldable pub AreOfChain : List Saved → Type 0
AreOfChain saved = All (λ s. is_of_chain s.answer ≡ true) saved

-- a header or a verdict is of another chain
abbrev pub TellsOtherChain : List ℕ → List Saved → Type 0
TellsOtherChain id saved = Any (λ h. h.chain ≢ id) (headers_of saved) ⊎ Any (λ v. v.chain ≢ id) (verdicts_of saved)

-- two files have verdicts, or two headers are of one height
abbrev pub TellsTwice : List Saved → Type 0
TellsTwice saved = (1 < length (verdicts_of saved)) ⊎ ((height : ℕ) × (1 < count_by (λ h. h.height == height) (headers_of saved)))

-- a verdict on a commit's file tells of another number of votes than the commit has
abbrev pub HasOtherVerdict : List Saved → Type 0
HasOtherVerdict saved = Any (λ (f : Filed). TellsOtherVotes (verdict_list (verdicts_of saved)) f.1 (length f.0.signatures.items)) (filed_of saved)

-- two pages tell different totals
abbrev pub HaveTwoTotals : List ValidatorsPage → Type 0
HaveTwoTotals pages = Any (λ p. Any (λ q. p.total ≢ q.total) pages) pages

-- pages have more validators than one of them says that there are
abbrev pub HaveTooMany : List ValidatorsPage → Type 0
HaveTooMany pages = Any (λ p. p.total < length (validators_of pages)) pages

-- what doesn't hold of the pages of a height, by the name that is told, beside these headers; no other name is, and none for want of a page
abbrev pub RefusesPages : CheckErrorName → List SignedHeader → ℕ → List ValidatorsPage → Type 0
RefusesPages CheckErrorName.OtherTotal headers height pages = HaveTwoTotals pages
RefusesPages CheckErrorName.TooManyValidators headers height pages = HaveTooMany pages
RefusesPages CheckErrorName.BadSet headers height pages = AreAllPages pages × IsSome (set_refusal (validators_of pages))
RefusesPages CheckErrorName.OtherSet headers height pages =
    AreAllPages pages × Any (λ h. (h.height ≡ height) × (h.set ≢ set_hash (in_set_order (validators_of pages)))) headers
RefusesPages _ headers height pages = ⊥

-- what doesn't hold of a commit and the sets that were seen, by the name that is told; no other name is
abbrev pub RefusesCommit : CheckErrorName → List SeenSet → Commit → Type 0
RefusesCommit name sets c = (s : SeenSet) × Contains sets s × (set_hash s.set ≡ c.header.now.set) × Differ name c.header.now.signatures.items s.set

-- some height has all the validators of the set that a header names, and its signatures don't fit the set
abbrev pub HasDiscord : CheckErrorName → List Saved → Type 0
HasDiscord name saved =
    Any (λ (h : SignedHeader). (height : ℕ) × AreWhole saved height × (set_hash (in_set_order (validators_at saved height)) ≡ h.set)
    × Differ name h.signatures.items (in_set_order (validators_at saved height))) (headers_of saved)

-- what doesn't hold of a chain's answers, by the name that is told; no other name is. Each is a contradiction between answers that are there: none is
-- told for want of a page or of a set
abbrev pub Refuses : CheckErrorName → List ℕ → List Saved → Type 0
Refuses CheckErrorName.WrongFolder id saved = Any (λ s. is_of_chain s.answer ≡ false) saved
Refuses CheckErrorName.OtherChain id saved = TellsOtherChain id saved
Refuses CheckErrorName.TwoAnswers id saved = TellsTwice saved
Refuses CheckErrorName.OtherVerdict id saved = HasOtherVerdict saved
Refuses CheckErrorName.OtherHeader id saved = Any (λ h. h.hash ≢ h.block) (headers_of saved)
Refuses CheckErrorName.SignatureCount id saved = HasDiscord CheckErrorName.SignatureCount saved
Refuses CheckErrorName.OtherSigner id saved = HasDiscord CheckErrorName.OtherSigner saved
Refuses name id saved = (height : ℕ) × RefusesPages name (headers_of saved) height (pages_at saved height)

-- the error has its reason in a chain's answers; memory may run out at any
abbrev pub HasReasonOf : List ℕ → List Saved → ImportError → Type 0
HasReasonOf id saved e = IsToldBy (λ name. Refuses name id saved) e

-- a chain's answers contradict one another
abbrev pub Contradict : List ℕ → List Saved → Type 0
Contradict id saved = (name : CheckErrorName) × Refuses name id saved

-- answers that contradict one another do so beside any that come, too: what refuses them is never that an answer isn't there
abbrev pub ContradictionsStay : Type 0
ContradictionsStay = (id : List ℕ) (saved more : List Saved) → Contradict id saved → Contradict id (saved ++ more)
