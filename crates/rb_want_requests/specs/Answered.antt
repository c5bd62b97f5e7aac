-- Which requests are answered by what a folder holds.
use Rattle.std.specs.Prelude.{◌==◌, ◌&&◌, ◌||◌, ℕ, ◌+◌, nat_le, List, length, Bool, true, false, not, Option, Some, None, count_by, find, unwrap_or}
use Rattle.std.specs.List.{list_any, range_with_len}
use Rattle.rb_want_requests.specs.declared.answered.PartKind.{PartKind}
use Rattle.rb_want_requests.specs.declared.answered.PartKind.TheVariants as kinds
use Rattle.rb_want_requests.specs.declared.content.Content.{Content}
use Rattle.rb_want_requests.specs.declared.content.Content.TheVariants as contents
use Rattle.rb_want_requests.specs.declared.request.Query.{Query}
use Rattle.rb_want_requests.specs.declared.request.Query.TheVariants as queries

-- the state of a client
abbrev pub is_state : Content → Bool
is_state (contents.ClientState state) = true
is_state _ = false

-- a page of a client's consensus states
abbrev pub is_states : Content → Bool
is_states (contents.ConsensusStates number page) = true
is_states _ = false

-- what a node says of itself
abbrev pub is_status : Content → Bool
is_status (contents.Status status) = true
is_status _ = false

-- the header of this height
abbrev pub is_commit_of : ℕ → Content → Bool
is_commit_of height (contents.Commit header) = header.height == height
is_commit_of height _ = false

-- a page of the validators of this height
abbrev pub is_page_of : ℕ → Content → Bool
is_page_of height (contents.Validators number page) = page.height == height
is_page_of height _ = false

-- a page of the commitments of a channel's end (ICS 4)
abbrev pub is_commitments : Content → Bool
is_commitments (contents.Commitments number page) = true
is_commitments _ = false

-- which packets weren't received
abbrev pub is_unreceived : Content → Bool
is_unreceived (contents.Unreceived number sequences) = true
is_unreceived _ = false

-- of which packets the acknowledgement was written
abbrev pub is_acknowledgements : Content → Bool
is_acknowledgements (contents.Acknowledgements number sequences) = true
is_acknowledgements _ = false

-- ---- pages and parts

-- an answer of this kind
abbrev pub is_part_of : PartKind → Content → Bool
is_part_of (kinds.Validators height) c = is_page_of height c
is_part_of kinds.ConsensusStates c = is_states c
is_part_of kinds.Commitments c = is_commitments c
is_part_of kinds.Unreceived c = is_unreceived c
is_part_of kinds.Acknowledgements c = is_acknowledgements c

-- the number of a page or a part, as its file's name has it
abbrev pub number_in : Content → Option ℕ
number_in (contents.Validators number page) = number
number_in (contents.ConsensusStates number page) = number
number_in (contents.Commitments number page) = number
number_in (contents.Unreceived number sequences) = number
number_in (contents.Acknowledgements number sequences) = number
number_in _ = None

abbrev pub is_number : ℕ → Option ℕ → Bool
is_number n (Some m) = m == n
is_number n None = false

-- not above this one, or none
abbrev pub is_up_to : ℕ → Option ℕ → Bool
is_up_to n (Some m) = nat_le m n
is_up_to n None = true

-- the part with this number
abbrev pub is_part : PartKind → ℕ → Content → Bool
is_part kind n c = is_part_of kind c && is_number n (number_in c)

-- a part that isn't later: one in a file of another name may be any
abbrev pub is_part_to : PartKind → ℕ → Content → Bool
is_part_to kind n c = is_part_of kind c && is_up_to n (number_in c)

-- the part with this number is there, or as many parts as the number says that aren't later
unfoldable pub has_part : PartKind → ℕ → List Content → Bool
has_part kind n there = list_any (is_part kind n) there || nat_le n (count_by (is_part_to kind n) there)

-- the least number, from 1, whose part isn't there
unfoldable pub next_part : PartKind → List Content → ℕ
next_part kind there = unwrap_or (find (λ n. not (has_part kind n there)) (range_with_len 1 (length there))) (length there + 1)

-- the last page of consensus states or of commitments
abbrev pub is_last : Content → Bool
is_last (contents.ConsensusStates number page) = page.is_last
is_last (contents.Commitments number page) = page.is_last
is_last _ = false

abbrev pub is_last_to : PartKind → ℕ → Content → Bool
is_last_to kind n c = is_last c && is_part_to kind n c

-- all pages are there: the last one, and each before it
unfoldable pub has_all : PartKind → List Content → Bool
has_all kind there = list_any (is_last_to kind (next_part kind there)) there

-- ---- queries

-- whether what a query asks for is among these contents; a search is told by its file's name
abbrev pub is_answered : List Content → Query → Bool
is_answered there queries.ClientState = list_any is_state there
is_answered there (queries.ConsensusStates page) = has_part kinds.ConsensusStates page there
is_answered there queries.Status = list_any is_status there
is_answered there (queries.Commit height) = list_any (is_commit_of height) there
is_answered there (queries.Validators height page size) = has_part (kinds.Validators height) page there
is_answered there (queries.Commitments page) = has_part kinds.Commitments page there
is_answered there (queries.Unreceived part) = has_part kinds.Unreceived part there
is_answered there (queries.Acknowledgements part) = has_part kinds.Acknowledgements part there
is_answered there (queries.Sent sequence) = false
is_answered there (queries.Received sequence) = false
is_answered there (queries.AckWritten sequence) = false
