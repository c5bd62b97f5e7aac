-- What is asked for in a round, and rounds in which nodes are asked: in each, what was asked in the one before is answered or was refused.
use Rattle.std.specs.Prelude.{◌≡◌, ◌++◌, List, [], ◌∷◌, All, Option, Some, None, Bool, true, false}
use Rattle.std.specs.List.{AllPairs, list_any}
use Rattle.std.specs.List.Sorted.{IsPermutation}
use Rattle.rb_want_requests.specs.Answered.{is_commit_of, is_part, is_state, is_status}
use Rattle.rb_want_requests.specs.Lines.{contents_of}
use Rattle.rb_want_requests.specs.Requests.{folder_of, is_new, is_same}
use Rattle.rb_want_requests.specs.declared.answered.PartKind.TheVariants as kinds
use Rattle.rb_want_requests.specs.declared.content.Content.{Content}
use Rattle.rb_want_requests.specs.declared.content.Folder.{Folder}
use Rattle.rb_want_requests.specs.declared.content.Folders.{Folders}
use Rattle.rb_want_requests.specs.declared.request.Owner.{Owner}
use Rattle.rb_want_requests.specs.declared.request.Query.{Query}
use Rattle.rb_want_requests.specs.declared.request.Query.TheVariants as queries
use Rattle.rb_want_requests.specs.declared.request.Request.{Request}

-- what there is in the folders in a round, and which requests are wanted then
pub record Round : Type 0 where
  pub folders : Folders
  pub requests : List Request

-- all of these, and maybe more, in whatever order
abbrev pub HasAll : {X : Type 0} → List X → List X → Type 0
HasAll {X} before after = (more : List X) × IsPermutation (before ++ more) after

-- a folder has all answers and refusals that it had before
abbrev pub HasAllOf : Option Folder → Option Folder → Type 0
HasAllOf (Some before) (Some after) =
    HasAll before.contents.items after.contents.items
    × HasAll before.refused.items after.refused.items
    × HasAll before.searched.items after.searched.items
HasAllOf (Some before) None = ⊥
HasAllOf None after = after ≡ None

-- each folder does
abbrev pub HaveAll : Folders → Folders → Type 0
HaveAll before after = (owner : Owner) → HasAllOf (folder_of before owner) (folder_of after owner)

-- the next round: each folder has what it had before, and each request that was wanted is answered or was refused
abbrev pub IsNextRound : Round → Round → Type 0
IsNextRound r s = HaveAll r.folders s.folders × All (λ q. is_new s.folders q ≡ false) r.requests

-- rounds that follow one another, and want no request that is answered or was refused
abbrev pub AreRounds : List Round → Type 0
AreRounds [] = Unit {0}
AreRounds (r ∷ []) = All (λ q. is_new r.folders q ≡ true) r.requests
AreRounds (r ∷ (s ∷ rs)) = All (λ q. is_new r.folders q ≡ true) r.requests × (IsNextRound r s × AreRounds (s ∷ rs))

-- no request of a later round is the same as one of this round
abbrev pub AreOthers : Round → Round → Type 0
AreOthers earlier later = All (λ q. All (λ p. is_same p q ≡ false) later.requests) earlier.requests

-- what a query asks for; of a page or a part that in a file whose name has its number
abbrev pub is_asked_by : Query → Content → Bool
is_asked_by queries.ClientState c = is_state c
is_asked_by (queries.ConsensusStates page) c = is_part kinds.ConsensusStates page c
is_asked_by queries.Status c = is_status c
is_asked_by (queries.Commit height) c = is_commit_of height c
is_asked_by (queries.Validators height page size) c = is_part (kinds.Validators height) page c
is_asked_by (queries.Commitments page) c = is_part kinds.Commitments page c
is_asked_by (queries.Unreceived part) c = is_part kinds.Unreceived part c
is_asked_by (queries.Acknowledgements part) c = is_part kinds.Acknowledgements part c
is_asked_by _ c = false

-- what a wanted request asks for isn't there, so that its answer overwrites no other
abbrev pub NoneOverwritten : Type 0
NoneOverwritten =
    (folders : Folders) (r : Request) → is_new folders r ≡ true → list_any (is_asked_by r.query) (contents_of (folder_of folders r.owner)) ≡ false

-- no request of a round is wanted in a later one
abbrev pub NoneTwice : Type 0
NoneTwice = (rounds : List Round) → AreRounds rounds → AllPairs AreOthers rounds
