-- What was seen in the answers that a script is made of.
use Rattle.std.specs.Prelude.{◌≡◌, ◌+◌, ◌-◌, ◌++◌, ℕ, Bool, true, false, List, [], Vec, Option, Some, None, IfSome, IsSomeAnd, All, Any, Contains, length, map, option_to_list, slice_get}
use Rattle.std.specs.Global.{Global}
use Rattle.std.specs.List.{list_any}
use Rattle.std.specs.List.Sorted.{IsSorted, IsStrictlyIncreasing}
use Rattle.std.specs.Str.{bytes_eq}
use Rattle.rb_valset.specs.ValidatorSet.{set_hash}
use Rattle.rb_import_answers.specs.declared.client.TendermintClientState.{TendermintClientState}
use Rattle.rb_import_answers.specs.declared.packets.PacketPage.{PacketPage}
use Rattle.rb_import_setup.specs.declared.setup.ClientSetup.{ClientSetup}
use Rattle.rb_import_setup.specs.declared.setup.PathSetup.{PathSetup}
use Rattle.rb_import_setup.specs.declared.setup.ImportSetup.{ImportSetup}
use Rattle.rb_import_check.specs.declared.chain.Commit.{Commit}
use Rattle.rb_import_check.specs.declared.chain.SeenChain.{SeenChain}
use Rattle.rb_import_check.specs.declared.client.SeenClient.{SeenClient}
use Rattle.rb_import_check.specs.declared.client.Stored.{Stored}
use Rattle.rb_import_check.specs.declared.saved.Saved.{Saved}
use Rattle.rb_import_check.specs.declared.saved.SavedAnswers.{SavedAnswers}
use Rattle.rb_import_check.specs.declared.sets.SeenSet.{SeenSet}
use Rattle.rb_import_check.specs.declared.signed.Signatures.{Signatures}
use Rattle.rb_import_check.specs.Accord.{AgreesWith}
use Rattle.rb_import_check.specs.Chains.{AreOfFiles, HasItsValidators, HasSet, HaveHeaders, HaveSets, IsBare, IsJudged, IsLeftOut, IsOfChain, IsOfItsBlock, filed, filed_of, headers_of}
use Rattle.rb_import_check.specs.Clients.{AreOfClient, AreStatesOfFiles, AreStatesOn, AtRevision, HaveStates, IsOfRevision, JudgesAs, client_states_of, current_of, filed_states_of, has_last}
use Rattle.rb_import_check.specs.Refusals.{AreOfChain}
use Rattle.rb_import_check.specs.Sets.{IsPlaceOf, WasSeen}
use Rattle.rb_import_check.specs.Signed.{IsSigned, IsUnsigned}
use Rattle.rb_import_check.specs.Verdicts.{AreVerdictsOn}
use Rattle.rb_import_merge.specs.declared.kept.KeptSets.{KeptSets}
use Rattle.rb_import_merge.specs.declared.packets.SeenPacket.{SeenPacket}
use Rattle.rb_import_merge.specs.declared.path.SeenPath.{SeenPath}
use Rattle.rb_import_merge.specs.declared.seen.SeenSetup.{SeenSetup}
use Rattle.rb_import_merge.specs.declared.surplus.Surplus.{Surplus}
use Rattle.rb_import_merge.specs.Committed.{HaveCommitted}
use Rattle.rb_import_merge.specs.LeftOut.{AreLeftOut, HasSurplus, HaveTaken, was_timed_out}
use Rattle.rb_import_merge.specs.Lowest.{kind_cmp}
use Rattle.rb_import_merge.specs.Ways.{HasBefore}
use Rattle.rb_import_merge.specs.Packets.{AreFromOne, Expires, IsOfFile, is_on_packets}
use Rattle.rb_import_merge.specs.Room.{AtEachPlace, FitBooks, FitsHeaders}
use Rattle.rb_import_merge.specs.Sets.{AreKeptSets}
use Rattle.rb_import_merge.specs.Totals.{is_whole, pages_of}

abbrev items_of : Option (Vec Saved Global) → List Saved
items_of (Some saved) = saved.items
items_of None = []

-- the answers of the object at a place; none where there are none
abbrev pub answers_at : List (Vec Saved Global) → ℕ → List Saved
answers_at answers place = items_of (slice_get answers place)

-- of the headers that a chain's answers tell of, each of its file, the first are signed, by rising heights, the second have no set among these, and
-- the third too few signed. Each is of the chain, of the block that its commit is for, and has the verdict on that; where the answers have the
-- validators of its height, they are its set
abbrev pub AreHeadersOf : List ℕ → Signatures → List Saved → List SeenSet → List Commit → List Commit → List Commit → Type 0
AreHeadersOf id signatures saved sets commits bare unsigned =
    HaveHeaders (headers_of saved) (commits ++ bare ++ unsigned) × AreOfFiles (filed_of saved) (commits ++ bare ++ unsigned) × All (IsJudged saved) commits
    × IsStrictlyIncreasing (map (λ (c : Commit). c.header.now.height) commits)
    × All (IsOfChain id) commits × All IsOfItsBlock commits × All (HasSet sets) commits × All (HasItsValidators saved) commits
    × All (IsSigned signatures sets) commits × All (IsBare sets) bare × All (IsUnsigned signatures sets) unsigned × All (IsLeftOut id saved) (bare ++ unsigned)

-- of the signed ones these are the highest, as many as a book has room for
abbrev pub AreHighestHeaders : List ℕ → Signatures → List Saved → SeenChain → Type 0
AreHighestHeaders id signatures saved chain =
    (commits : List Commit) × AreHeadersOf id signatures saved chain.sets.sets.items commits chain.bare.items chain.unsigned.items × FitsHeaders commits chain.commits.items

-- of what the answers of the chain of this identifier tell of, these are the highest headers that are signed, those that are left out, and all sets;
-- each answer belongs there, and the verdicts are on the chain
abbrev pub IsSeenChain : List ℕ → Signatures → List Saved → SeenChain → Type 0
IsSeenChain id signatures saved chain =
    AreHighestHeaders id signatures saved chain × HaveSets saved chain.sets.sets.items × AreOfChain saved × AreVerdictsOn id saved

-- (internal) each header that was seen is of a file of the chain's answers
abbrev pub AreFiledIn : List Saved → SeenChain → Type 0
AreFiledIn saved chain = All (λ (c : Commit). Contains (filed_of saved) (filed c)) chain.commits.items

-- each of a client's records agrees with the headers of the chain that it tracks, where that was seen
abbrev pub AgreesWithChain : Option SeenChain → List Stored → Type 0
AgreesWithChain tracked stored = IfSome tracked (λ (chain : SeenChain). All (AgreesWith chain.commits.items) stored)

-- these are the records that the answers of a client of this chain tell of, each of its file, by rising heights, without those of a revision
-- before the chain's; they are of that revision, and the last page of them is among the answers
abbrev pub AreRecordsOf : List ℕ → List Saved → List Stored → Type 0
AreRecordsOf tracked saved stored =
    AtRevision tracked (λ revision. HaveStates (current_of revision saved) stored)
    × AtRevision tracked (λ revision. AreStatesOfFiles (filed_states_of revision saved) stored)
    × IsStrictlyIncreasing (map (λ (s : Stored). s.state.now.height) stored) × All (IsOfRevision tracked) stored × (has_last saved ≡ true)

-- the client judges headers as the setup says, or else its state, which is on the chain that it tracks, and has the latest height of that; its
-- records are those that its answers tell of, and agree with the headers of that chain; each answer belongs there
abbrev pub IsSeenClient : List (List ℕ) → Option SeenChain → ClientSetup → List Saved → SeenClient → Type 0
IsSeenClient chains tracked c saved client =
    JudgesAs c (client_states_of saved) client
    × (option_to_list client.latest ≡ map (λ (s : TendermintClientState). s.latest) (client_states_of saved))
    × IsSomeAnd (slice_get chains c.tracks) (λ id. AreStatesOn id saved × AreRecordsOf id saved client.stored.items)
    × AgreesWithChain tracked client.stored.items × AreOfClient saved

-- each of these is what was seen of the client at its place
abbrev pub AreSeenClients : ImportSetup → List (Vec Saved Global) → List SeenChain → List SeenClient → Type 0
AreSeenClients setup answers seen clients =
    AtEachPlace (λ i c client. IsSeenClient setup.chains.items (slice_get seen c.tracks) c (answers_at answers i) client) setup.clients.items clients

-- for how many of the signed headers that a chain's answers tell of a book has no room
abbrev pub surplus_of : List Saved → SeenChain → ℕ
surplus_of saved chain = length (headers_of saved) - (length chain.bare.items + length chain.unsigned.items) - 4096

-- a path may have these answers, and all transactions of each of their searches are there
abbrev pub AreWholeSearches : List Saved → Type 0
AreWholeSearches saved =
    All (λ (s : Saved). is_on_packets s.answer ≡ true) saved × All (λ (p : PacketPage). is_whole p.total (pages_of saved) ≡ true) (pages_of saved)

-- these are the path's packets that its answers tell of and that are taken, each of its file, with the height of its destination, a chain of the
-- setup, from which on it isn't received, and with the event before it; each packet with a commitment that is taken has its events; they stand by
-- kind, block and sequence, and are of one source, where the setup names none
abbrev pub ArePacketsOf : List (List ℕ) → PathSetup → List Saved → Option Surplus → List SeenPacket → Type 0
ArePacketsOf chains path saved surplus packets =
    HaveTaken path saved surplus packets × All (IsOfFile saved) packets
    × IsSomeAnd (slice_get chains path.config.destination) (λ dest. All (Expires dest) packets)
    × All (HasBefore packets) packets × HaveCommitted path saved surplus packets × IsSorted kind_cmp packets
    × (path.source_channel ≡ None → AreFromOne packets)

-- these are the path's packets; those that lack something are left out, and those behind the first 4,096 have no room; whether one timed out; and
-- all searches are whole
abbrev pub IsSeenPath : List (List ℕ) → PathSetup → List Saved → SeenPath → Type 0
IsSeenPath chains path saved seen =
    ArePacketsOf chains path saved seen.surplus seen.packets.items × AreLeftOut path saved seen.left_out.items × HasSurplus path saved seen.surplus
    × (seen.timed_out ≡ was_timed_out path saved) × AreWholeSearches saved

-- each of these is what was seen of the path at its place
abbrev pub AreSeenPaths : ImportSetup → List (Vec Saved Global) → List SeenPath → Type 0
AreSeenPaths setup answers paths = AtEachPlace (λ i path seen. IsSeenPath setup.chains.items path (answers_at answers i) seen) setup.paths.items paths

-- this was seen of the setup's chains, clients and paths in their answers; books have room for the records, and for the sets that are kept
unfoldable pub IsSeenIn : ImportSetup → Signatures → SavedAnswers → SeenSetup → Type 0
IsSeenIn setup signatures answers seen =
    AtEachPlace (λ i id chain. IsSeenChain id signatures (answers_at answers.chains.items i) chain) setup.chains.items seen.chains.items
    × AtEachPlace (λ i chain surplus. surplus ≡ surplus_of (answers_at answers.chains.items i) chain) seen.chains.items seen.surplus.items
    × AreSeenClients setup answers.clients.items seen.chains.items seen.clients.items
    × FitBooks setup seen.chains.items seen.clients.items seen.records.items
    × AtEachPlace (AreKeptSets setup seen.records.items) seen.chains.items seen.sets.items
    × AreSeenPaths setup answers.paths.items seen.paths.items

-- this holds of what was seen
abbrev pub HoldsOfSeen : ImportSetup → Signatures → SavedAnswers → (SeenSetup → Type 0) → Type 0
HoldsOfSeen setup signatures answers Holds = (seen : SeenSetup) × IsSeenIn setup signatures answers seen × Holds seen

-- ---- what is kept of it, and what is left out

-- a set of this hash was seen of the chain at a place
abbrev pub WasSeenOf : List SeenChain → ℕ → List ℕ → Type 0
WasSeenOf chains place hash = IsSomeAnd (slice_get chains place) (λ (c : SeenChain). WasSeen c.sets.sets.items hash)

-- the set of this hash is one of a chain's kept sets
abbrev pub IsKeptSet : SeenChain → List ℕ → KeptSets → Type 0
IsKeptSet chain hash kept = Any (IsPlaceOf chain.sets.sets.items hash) kept.places.items

-- the set of this hash is written of the chain at a place
abbrev pub IsWrittenOf : List SeenChain → List KeptSets → ℕ → List ℕ → Type 0
IsWrittenOf chains sets place hash =
    IsSomeAnd (slice_get chains place) (λ (c : SeenChain). IsSomeAnd (slice_get sets place) (IsKeptSet c hash))

-- whether a chain's set at a place has this hash
abbrev pub is_of_hash : List ℕ → Option SeenSet → Bool
is_of_hash hash (Some s) = bytes_eq (set_hash s.set) hash
is_of_hash hash None = false

-- the same as a test: whether the set of this hash is written of a chain
abbrev pub is_written : Option SeenChain → Option KeptSets → List ℕ → Bool
is_written (Some chain) (Some kept) hash = list_any (λ i. is_of_hash hash (slice_get chain.sets.sets.items i)) kept.places.items
is_written chain kept hash = false

abbrev left_of_sets : Option KeptSets → ℕ
left_of_sets (Some kept) = kept.left_out
left_of_sets None = 0

-- how many sets of the chain at a place aren't written
abbrev pub sets_left_out : List KeptSets → ℕ → ℕ
sets_left_out sets place = left_of_sets (slice_get sets place)

-- no header was seen of the chain at a place
abbrev pub LacksHeaders : List SeenChain → ℕ → Type 0
LacksHeaders chains place = IsSomeAnd (slice_get chains place) (λ (c : SeenChain). length c.commits.items ≡ 0)

abbrev left_of : Option SeenClient → Option (Vec Stored Global) → ℕ
left_of (Some client) (Some records) = length client.stored.items - length records.items
left_of client records = 0

-- how many of the records that the client at a place has stored aren't written
abbrev pub left_out : List SeenClient → List (Vec Stored Global) → ℕ → ℕ
left_out clients records place = left_of (slice_get clients place) (slice_get records place)
