-- What was seen of a setup's chains and clients.
use Rattle.std.proofs.Common.{◌≡◌, ℕ, ◌<◌, ◌+◌, ◌-◌, ◌++◌, List, Vec, length, get_or, map, Some, sym, subst, ap, All, arith}
use Rattle.std.specs.Prelude.{Contains, IsSomeAnd, slice_get}
use Rattle.std.specs.Global.{Global}
use Rattle.std.proofs.lemmas.List.{length-append, length-map}
use Rattle.std.proofs.lemmas.List.Elements.{All-drop, Contains-append_left, Contains-get_or}
use Rattle.std.proofs.lemmas.List.Sorted.{Contains-permutation, IsPermutation-sym, length_permutation}
use Rattle.rb_import_setup.specs.declared.setup.ClientSetup.{ClientSetup}
use Rattle.rb_import_setup.specs.declared.setup.PathSetup.{PathSetup}
use Rattle.rb_import_setup.specs.declared.setup.ImportSetup.{ImportSetup}
use Rattle.rb_import_check.specs.declared.chain.Commit.{Commit}
use Rattle.rb_import_check.specs.declared.chain.SeenChain.{SeenChain}
use Rattle.rb_import_check.specs.declared.client.SeenClient.{SeenClient}
use Rattle.rb_import_check.specs.declared.saved.Saved.{Saved}
use Rattle.rb_import_check.specs.declared.saved.SavedAnswers.{SavedAnswers}
use Rattle.rb_import_check.specs.declared.signed.Signatures.{Signatures}
use Rattle.rb_import_check.specs.Chains.{HaveHeaders, filed, filed_of, headers_of}
use Rattle.rb_import_merge.specs.declared.path.SeenPath.{SeenPath}
use Rattle.rb_import_merge.specs.declared.seen.SeenSetup.{SeenSetup}
use Rattle.rb_import_merge.specs.Room.{AtEachPlace, FitBooks}
use Rattle.rb_import_merge.specs.Seen.{AreFiledIn, AreSeenClients, AreSeenPaths, IsSeenChain, IsSeenClient, IsSeenIn, IsSeenPath, answers_at, surplus_of}
use Rattle.rb_import_merge.specs.Sets.{AreKeptSets}
use Rattle.rb_import_merge.proofs.Among.{in_map}
use Rattle.rb_import_merge.proofs.Rooms.{AtEachBefore}

-- a client tracks a chain of the setup
pub client_within : (setup : ImportSetup) (c : ClientSetup) (i : ℕ) → i < length setup.clients.items → c ≡ get_or setup.clients.items i c → c.tracks < length setup.chains.items
client_within setup c i small is = subst (λ (x : ClientSetup). x.tracks < length setup.chains.items) (sym is) (setup.places.each_client i c small).tracks

-- a path's destination is a chain of the setup
pub path_within : (setup : ImportSetup) (p : PathSetup) (i : ℕ) → i < length setup.paths.items → p ≡ get_or setup.paths.items i p → p.config.destination < length setup.chains.items
path_within setup p i small is = subst (λ (x : PathSetup). x.config.destination < length setup.chains.items) (sym is) (setup.places.each_path i p small).destination

-- what holds of the chain at a place holds of what stands there
pub of_tracked : (P : List ℕ → Type 0) (chains : List (List ℕ)) (n : ℕ) {tracked : List ℕ} → P tracked → slice_get chains n ≡ Some tracked → IsSomeAnd (slice_get chains n) P
of_tracked P chains n holds is = subst (λ o. IsSomeAnd o P) (sym is) holds

-- as many headers are left out as the signed ones are more
pub surplus_is : (saved : List Saved) (commits : List Commit) (chain : SeenChain) (bare unsigned : List Commit) (n : ℕ) → HaveHeaders (headers_of saved) (commits ++ bare ++ unsigned)
    → chain.bare.items ≡ bare → chain.unsigned.items ≡ unsigned → n ≡ length commits - 4096 → n ≡ surplus_of saved chain
surplus_is saved commits chain bare unsigned n same first second is =
    let joined : List Commit = commits ++ bare ++ unsigned in
    let long : length (map (λ (c : Commit). c.header.now) joined) ≡ length (headers_of saved) = length_permutation (headers_of saved) (map (λ (c : Commit). c.header.now) joined) same in
    let each : length (map (λ (c : Commit). c.header.now) joined) ≡ length joined = length-map joined (λ (c : Commit). c.header.now) in
    let both : length joined ≡ length (commits ++ bare) + length unsigned = length-append (commits ++ bare) unsigned in
    let those : length (commits ++ bare) ≡ length commits + length bare = length-append commits bare in
    let one : length chain.bare.items ≡ length bare = ap length first in
    let two : length chain.unsigned.items ≡ length unsigned = ap length second in
    omega (arith, long, each, both, those, one, two, is)

in_joined : (commits bare unsigned : List Commit) (c : Commit) → Contains commits c → Contains (commits ++ bare ++ unsigned) c
in_joined commits bare unsigned c among = Contains-append_left (commits ++ bare) unsigned c (Contains-append_left commits bare c among)

-- each header of a chain is of a file of its answers
pub are_filed : (id : List ℕ) (signatures : Signatures) (saved : List Saved) (chain : SeenChain) → IsSeenChain id signatures saved chain → AreFiledIn saved chain
are_filed id signatures saved chain ((commits, headers, room), sets, belong, judging) =
    let joined : List Commit = commits ++ chain.bare.items ++ chain.unsigned.items in
    let all : All (λ (c : Commit). Contains (filed_of saved) (filed c)) commits = λ k d small.
    Contains-permutation (map filed joined) (filed_of saved) (filed (get_or commits k d)) (IsPermutation-sym (filed_of saved) (map filed joined) headers.1)
    (in_map filed joined (get_or commits k d) (in_joined commits chain.bare.items chain.unsigned.items (get_or commits k d) (Contains-get_or commits k d small))) in
    subst (All (λ (c : Commit). Contains (filed_of saved) (filed c))) (sym room.1) (All-drop (λ (c : Commit). Contains (filed_of saved) (filed c)) (length commits - 4096) commits all)

pub seen_in : (setup : ImportSetup) (signatures : Signatures) (answers : SavedAnswers) (seen : SeenSetup)
    → AtEachPlace (λ (i : ℕ) (id : List ℕ) (chain : SeenChain). IsSeenChain id signatures (answers_at answers.chains.items i) chain) setup.chains.items seen.chains.items
    → AtEachPlace (λ (i : ℕ) (chain : SeenChain) (surplus : ℕ). surplus ≡ surplus_of (answers_at answers.chains.items i) chain) seen.chains.items seen.surplus.items
    → AreSeenClients setup answers.clients.items seen.chains.items seen.clients.items → FitBooks setup seen.chains.items seen.clients.items seen.records.items
    → AtEachPlace (AreKeptSets setup seen.records.items) seen.chains.items seen.sets.items → AreSeenPaths setup answers.paths.items seen.paths.items → IsSeenIn setup signatures answers seen
unfolding IsSeenIn
seen_in setup signatures answers seen chains surplus clients records sets paths = (chains, surplus, clients, records, sets, paths)
