-- The lines that say what is to be fetched: the chain, the path of the request, and the file that the answer belongs into.
use Rattle.std.specs.Prelude.{ℕ, ◌+◌, ◌==◌, ◌&&◌, ◌||◌, nat_eq, nat_lt, if◌then◌else◌, List, [], ◌∷◌, ◌++◌, length, drop, codes, Option, Some, None}
use Rattle.std.specs.List.{flat_map, starts_with, list_any}
use Rattle.std.specs.Char.{is_ascii_alphanumeric}
use Rattle.std.specs.Fmt.{decimal}
use Rattle.rb_want_requests.specs.Keys.{next_key}
use Rattle.rb_want_requests.specs.PacketPaths.{packet_path}
use Rattle.rb_want_requests.specs.Reasons.{why_line}
use Rattle.rb_want_requests.specs.Requests.{folder_of, name_of}
use Rattle.rb_want_requests.specs.declared.answered.PartKind.TheVariants as kinds
use Rattle.rb_want_requests.specs.declared.content.Content.{Content}
use Rattle.rb_want_requests.specs.declared.content.Folder.{Folder}
use Rattle.rb_want_requests.specs.declared.content.Folders.{Folders}
use Rattle.rb_want_requests.specs.declared.reason.SearchReason.{SearchReason}
use Rattle.rb_want_requests.specs.declared.request.Owner.{Owner}
use Rattle.rb_want_requests.specs.declared.request.Owner.TheVariants as owners
use Rattle.rb_want_requests.specs.declared.request.Query.{Query}
use Rattle.rb_want_requests.specs.declared.request.Query.TheVariants as queries
use Rattle.rb_want_requests.specs.declared.request.Request.{Request}

-- ---- paths

-- a request to a node (CometBFT)
abbrev pub node_path : Query → List ℕ
node_path queries.Status = codes "/status"
node_path (queries.Commit height) = codes "/commit?height=" ++ decimal height
node_path (queries.Validators height page size) =
    codes "/validators?height=" ++ (decimal height ++ (codes "&per_page=" ++ (decimal size ++ (codes "&page=" ++ decimal page))))
node_path _ = []

-- a request to a gateway on a client of its chain (ibc-go)
abbrev pub client_path : Query → List ℕ → List ℕ
client_path queries.ClientState client = codes "/ibc/core/client/v1/client_states/" ++ client
client_path _ client = codes "/ibc/core/client/v1/consensus_states/" ++ (client ++ (codes "?pagination.limit=" ++ decimal 1000))

-- what follows `HOST.` in a client's identifier where it begins with that and more, else the whole
unfoldable pub own_id : List ℕ → List ℕ → List ℕ
own_id host id =
    if starts_with nat_eq id (host ++ codes ".") && nat_lt (length host + 1) (length id) then drop (length host + 1) id else id

-- a character of base64 in a URL (RFC 3986); what isn't one is left out
unfoldable pub key_character : ℕ → List ℕ
key_character c =
    if c == 43 then codes "%2B"
    else if c == 47 then codes "%2F"
    else if c == 61 then codes "%3D"
    else if is_ascii_alphanumeric c || list_any (λ b. b == c) (codes "-_") then c ∷ []
    else []

-- the key that a page begins with, but for the first
abbrev pub key_text : Option (List ℕ) → List ℕ
key_text (Some key) = codes "&pagination.key=" ++ flat_map key_character key
key_text None = []

-- the key that the page of a query begins with
abbrev pub page_key : Query → List Content → Option (List ℕ)
page_key (queries.ConsensusStates page) there = next_key kinds.ConsensusStates page there
page_key (queries.Commitments page) there = next_key kinds.Commitments page there
page_key _ there = None

-- ---- files

-- answers are in JSON, and `import` reads none to `/status`
abbrev pub ending_of : Query → List ℕ
ending_of queries.Status = []
ending_of _ = codes ".json"

-- the file of an answer, in the folder of this name
abbrev pub file_of : List ℕ → Query → List ℕ
file_of folder query = folder ++ (codes "/" ++ (name_of query ++ ending_of query))

-- ---- lines

abbrev pub contents_of : Option Folder → List Content
contents_of (Some folder) = folder.contents.items
contents_of None = []

-- the path and the file, over what the folder holds
abbrev pub target_of : List ℕ → Owner → Query → List Content → List ℕ
target_of chain (owners.Chain place) query there = node_path query ++ (codes " " ++ file_of chain query)
target_of chain (owners.Client place id) query there =
    client_path query (own_id chain id) ++ (key_text (page_key query there) ++ (codes " " ++ file_of id query))
target_of chain (owners.Path place id end) query there =
    packet_path query end there ++ (key_text (page_key query there) ++ (codes " " ++ file_of id query))

-- the line of a request, over the folders of what is there
abbrev pub request_line : Folders → Request → List ℕ
request_line folders r = codes "get " ++ (r.chain ++ (codes " " ++ target_of r.chain r.owner r.query (contents_of (folder_of folders r.owner))))

-- a line for each request, and after them one for each reason
abbrev pub wanted_text : Folders → List Request → List SearchReason → List ℕ
wanted_text folders requests reasons =
    flat_map (λ r. request_line folders r ++ 10 ∷ []) requests ++ flat_map (λ why. why_line why ++ 10 ∷ []) reasons
