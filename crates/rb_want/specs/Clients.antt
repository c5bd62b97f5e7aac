-- What the folder of a client tells of it, and that of the chain that it tracks.
use Rattle.std.specs.Prelude.{◌≡◌, ◌≢◌, ◌↔◌, ℕ, ◌==◌, nat_le, Contains, Bool, true, false, if◌then◌else◌, List, [], ◌∷◌, Option, Some, None, find, fold, filter, length, option_and_then}
use Rattle.std.specs.List.{filter_map, flat_map, sum_by}
use Rattle.rb_import_answers.specs.declared.client.TendermintClientState.{TendermintClientState}
use Rattle.rb_import_answers.specs.declared.client.ConsensusState.{ConsensusState}
use Rattle.rb_import_answers.specs.declared.commit.SignedHeader.{SignedHeader}
use Rattle.rb_import_answers.specs.declared.validators.ValidatorsPage.{ValidatorsPage}
use Rattle.rb_import_check.specs.Chains.{AreAllPages, validators_of}
use Rattle.rb_import_check.specs.Sets.{WasSeen}
use Rattle.rb_import_check.specs.declared.sets.SeenSet.{SeenSet}
use Rattle.rb_valset.specs.Refusal.{set_refusal}
use Rattle.rb_valset.specs.Validator.{Member}
use Rattle.rb_valset.specs.ValidatorSet.{in_set_order, set_hash}
use Rattle.rb_want_requests.specs.declared.content.Content.{Content}
use Rattle.rb_want_requests.specs.declared.content.Content.TheVariants as contents
use Rattle.rb_import_answers.specs.declared.status.NodeStatus.{NodeStatus}
use Rattle.rb_want_requests.specs.declared.request.Query.{Query}
use Rattle.rb_want_requests.specs.declared.request.Query.TheVariants as queries
use Rattle.rb_want_requests.specs.Answered.{is_part_to, next_part}
use Rattle.rb_want_requests.specs.declared.answered.PartKind.TheVariants as kinds

-- ---- a client

-- the state of a client that is frozen, or isn't Tendermint's
abbrev pub is_other_client : Content → Bool
is_other_client contents.OtherClient = true
is_other_client _ = false

-- the client's state, where the content has it, else the one before
abbrev pub later_state : Option TendermintClientState → Content → Option TendermintClientState
later_state before (contents.ClientState state) = Some state
later_state before _ = before

-- the client's state, of several the last
unfoldable pub state_in : List Content → Option TendermintClientState
state_in there = fold later_state None there

-- the consensus states of a page that are of this revision number
abbrev pub states_of : ℕ → Content → List ConsensusState
states_of revision (contents.ConsensusStates number page) = filter (λ s. s.revision == revision) page.states.items
states_of revision _ = []

-- all that the client has stored
unfoldable pub stored_in : ℕ → List Content → List ConsensusState
stored_in revision there = flat_map (states_of revision) there

-- ---- a chain

-- what the node says of itself, where the content has it, else what it said before
abbrev pub later_status : Option NodeStatus → Content → Option NodeStatus
later_status before (contents.Status status) = Some status
later_status before _ = before

-- what the node says of itself, of several answers the last
unfoldable pub status_in : List Content → Option NodeStatus
status_in there = fold later_status None there

-- the header is among these contents, and is of this height
abbrev pub IsHeaderAt : List Content → ℕ → SignedHeader → Type 0
IsHeaderAt there height h = Contains there (contents.Commit h) × (h.height ≡ height)

-- the page, if the content is one of validators
abbrev pub page_in : Content → Option ValidatorsPage
page_in (contents.Validators number page) = Some page
page_in _ = None

-- the page, if it is of this height
abbrev pub if_at : ℕ → Option ValidatorsPage → Option ValidatorsPage
if_at height (Some page) = if page.height == height then Some page else None
if_at height None = None

-- the page, if the content is one of this height
abbrev pub page_at : ℕ → Content → Option ValidatorsPage
page_at height content = if_at height (page_in content)

abbrev pub pages_at : ℕ → List Content → List ValidatorsPage
pages_at height there = filter_map (page_at height) there

-- the set that these validators make; none where they are refused
abbrev pub MayMake : List Member → Option (List Member) → Type 0
MayMake members (Some set) = (set_refusal members ≡ None) × (set ≡ in_set_order members)
MayMake members None = set_refusal members ≢ None

-- these are all pages of the validators of a height, who make a set of this hash
unfoldable pub MakeSet : List ValidatorsPage → List ℕ → Type 0
MakeSet pages hash =
    AreAllPages pages × (set_refusal (validators_of pages) ≡ None) × (set_hash (in_set_order (validators_of pages)) ≡ hash)

-- a set of this hash is there: the pages of the validators of some height make it
abbrev pub IsSetThere : List Content → List ℕ → Type 0
IsSetThere there hash = ∥ ((height : ℕ) × MakeSet (pages_at height there) hash) ∥₁

-- the sets are those that are there
abbrev pub AreSetsThere : List Content → List SeenSet → Type 0
AreSetsThere there sets = (hash : List ℕ) → ∥ WasSeen sets hash ∥₁ ↔ IsSetThere there hash

-- how many validators these pages have
abbrev pub members_at : ℕ → List Content → ℕ
members_at height there = sum_by (λ p. length p.validators.items) (pages_at height there)

-- the first page of the validators of a height
abbrev pub first_page : ℕ → List Content → Option ValidatorsPage
first_page height there = option_and_then page_in (find (is_part_to (kinds.Validators height) 1) there)

-- The page with this number, where there are so many validators: of as many as the first page has; none where that has none, or where there are as
-- many as it says. Without the first page it is that, of 100 (CometBFT: `per_page`).
abbrev pub page_after : ℕ → Option ValidatorsPage → ℕ → ℕ → List Query
page_after height None page members = queries.Validators height 1 100 ∷ []
page_after height (Some p) page members =
    if nat_le (length p.validators.items) 0 then []
    else if nat_le p.total members then []
    else queries.Validators height page (length p.validators.items) ∷ []

-- the least page of the validators of a height that isn't there, unless all are
unfoldable pub next_page : ℕ → List Content → List Query
next_page height there = page_after height (first_page height there) (next_part (kinds.Validators height) there) (members_at height there)
