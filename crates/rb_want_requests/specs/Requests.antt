-- Which requests are the same, and which of them is still to be answered.
use Rattle.std.specs.Prelude.{◌≡◌, ◌≤◌, ◌==◌, ◌++◌, ℕ, nat_lt, count_by, Bool, true, false, not, if◌then◌else◌, ◌&&◌, List, Option, Some, None, String, codes, slice_get, string_bytes}
use Rattle.std.specs.List.{AllPairs, list_any}
use Rattle.std.specs.Str.{bytes_eq}
use Rattle.std.specs.Fmt.{decimal}
use Rattle.std.specs.Global.{Global}
use Rattle.rb_want_requests.specs.declared.request.Query.{Query}
use Rattle.rb_want_requests.specs.declared.request.Query.TheVariants as queries
use Rattle.rb_want_requests.specs.declared.request.Owner.{Owner}
use Rattle.rb_want_requests.specs.declared.request.Owner.TheVariants as owners
use Rattle.rb_want_requests.specs.declared.request.Request.{Request}
use Rattle.rb_want_requests.specs.declared.content.Folder.{Folder}
use Rattle.rb_want_requests.specs.declared.content.Folders.{Folders}
use Rattle.rb_want_requests.specs.Answered.{is_answered}

-- what a query is of: its kind, its height, page, part or sequence, and of validators the page
abbrev pub key_of : Query → ℕ × ℕ × ℕ
key_of queries.ClientState = (0, 0, 0)
key_of (queries.ConsensusStates page) = (1, page, 0)
key_of queries.Status = (2, 0, 0)
key_of (queries.Commit height) = (3, height, 0)
key_of (queries.Validators height page size) = (4, height, page)
key_of (queries.Commitments page) = (5, page, 0)
key_of (queries.Unreceived part) = (6, part, 0)
key_of (queries.Acknowledgements part) = (7, part, 0)
key_of (queries.Sent sequence) = (8, sequence, 0)
key_of (queries.Received sequence) = (9, sequence, 0)
key_of (queries.AckWritten sequence) = (10, sequence, 0)

-- the name of the request that a query makes
abbrev pub name_of : Query → List ℕ
name_of queries.ClientState = codes "client_state"
name_of (queries.ConsensusStates page) = codes "consensus_states-" ++ decimal page
name_of queries.Status = codes "status"
name_of (queries.Commit height) = codes "commit-" ++ decimal height
name_of (queries.Validators height page size) = codes "validators-" ++ decimal height ++ codes "-" ++ decimal page
name_of (queries.Commitments page) = codes "commitments-" ++ decimal page
name_of (queries.Unreceived part) = codes "unreceived-" ++ decimal part
name_of (queries.Acknowledgements part) = codes "acknowledgements-" ++ decimal part
name_of (queries.Sent sequence) = codes "sent-" ++ decimal sequence
name_of (queries.Received sequence) = codes "received-" ++ decimal sequence
name_of (queries.AckWritten sequence) = codes "written-" ++ decimal sequence

-- whether two queries are of the same
abbrev pub is_of_same : Query → Query → Bool
is_of_same q p = ((key_of q).0 == (key_of p).0) && ((key_of q).1 == (key_of p).1) && ((key_of q).2 == (key_of p).2)

-- what tells chains, clients and paths apart
abbrev pub place_key : Owner → ℕ × ℕ
place_key (owners.Chain place) = (0, place)
place_key (owners.Client place id) = (1, place)
place_key (owners.Path place id end) = (2, place)

abbrev pub is_of_same_place : Owner → Owner → Bool
is_of_same_place o p = ((place_key o).0 == (place_key p).0) && ((place_key o).1 == (place_key p).1)

-- whether two requests are for one folder, and of the same
abbrev pub is_same : Request → Request → Bool
is_same r s = is_of_same_place r.owner s.owner && is_of_same r.query s.query

-- no two are the same
abbrev pub AreDistinct : List Request → Type 0
AreDistinct requests = AllPairs (λ earlier later. is_same later earlier ≡ false) requests

-- whether the name of a query's request is one of these
abbrev pub is_named : List (String Global) → Query → Bool
is_named names query = list_any (λ name. bytes_eq (string_bytes name) (name_of query)) names

-- whether a folder has no answer to a query, and it wasn't refused; of a search a file of its name has the answer
abbrev pub is_new_in : Folder → Query → Bool
is_new_in folder query =
    not (is_answered folder.contents.items query) && not (is_named folder.refused.items query) && not (is_named folder.searched.items query)

-- the folder of a chain, a client or a path
abbrev pub folder_of : Folders → Owner → Option Folder
folder_of folders (owners.Chain place) = slice_get folders.chains.items place
folder_of folders (owners.Client place id) = slice_get folders.clients.items place
folder_of folders (owners.Path place id end) = slice_get folders.paths.items place

abbrev pub is_new_at : Option Folder → Query → Bool
is_new_at (Some folder) query = is_new_in folder query
is_new_at None query = false

-- whether a request's folder has no answer to it, and it wasn't refused
abbrev pub is_new : Folders → Request → Bool
is_new folders r = is_new_at (folder_of folders r.owner) r.query

-- whether a query is asked of a gateway (ibc-go), and not of a node (CometBFT)
abbrev pub is_of_gateway : Query → Bool
is_of_gateway queries.ClientState = true
is_of_gateway (queries.ConsensusStates page) = true
is_of_gateway queries.Status = false
is_of_gateway (queries.Commit height) = false
is_of_gateway (queries.Validators height page size) = false
is_of_gateway (queries.Commitments page) = true
is_of_gateway (queries.Unreceived part) = true
is_of_gateway (queries.Acknowledgements part) = true
is_of_gateway (queries.Sent sequence) = false
is_of_gateway (queries.Received sequence) = false
is_of_gateway (queries.AckWritten sequence) = false

-- whether a request goes to this address: the gateway or the node of a chain
abbrev pub is_to : List ℕ → Bool → Request → Bool
is_to chain gateway r = bytes_eq chain r.chain && (if gateway then is_of_gateway r.query else not (is_of_gateway r.query))

-- whether another request goes to the same address
abbrev pub is_to_same : Request → Request → Bool
is_to_same r other = is_to r.chain (is_of_gateway r.query) other

-- at most 30 go to each address
abbrev pub AreFew : List Request → Type 0
AreFew requests = (chain : List ℕ) (gateway : Bool) → count_by (is_to chain gateway) requests ≤ 30

-- whether a request may be added to these: fewer than 30 of them go to its address, none of them is the same, and it is new
abbrev pub may_be_added : Folders → List Request → Request → Bool
may_be_added folders requests r = nat_lt (count_by (is_to_same r) requests) 30 && not (list_any (is_same r) requests) && is_new folders r
