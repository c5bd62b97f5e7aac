-- Which stored records a chain's book has room for.
use Rattle.std.specs.Prelude.{◌≡◌, ◌≤◌, ◌<◌, ◌-◌, ◌⊎◌, ◌==◌, ◌||◌, ℕ, Bool, List, Vec, All, Any, Contains, drop, filter, length, Some, slice_get}
use Rattle.std.specs.Global.{Global}
use Rattle.std.specs.List.{list_any}
use Rattle.std.specs.List.Sorted.{IsStrictlyIncreasing}
use Rattle.rb_import_setup.specs.declared.setup.ClientSetup.{ClientSetup}
use Rattle.rb_import_setup.specs.declared.setup.ImportSetup.{ImportSetup}
use Rattle.rb_import_check.specs.declared.chain.Commit.{Commit}
use Rattle.rb_import_check.specs.declared.chain.SeenChain.{SeenChain}
use Rattle.rb_import_check.specs.declared.client.SeenClient.{SeenClient}
use Rattle.rb_import_check.specs.declared.client.Stored.{Stored}

-- there is a header of this height
unfoldable pub HasHeader : SeenChain → ℕ → Type 0
HasHeader chain height = Any (λ (c : Commit). c.header.now.height ≡ height) chain.commits.items

-- how many records a book holds beside the chain's headers, in a script of version 2 or 3, one a height
abbrev pub room_of : SeenChain → ℕ
room_of chain = 4096 - length chain.commits.items

-- the heights take all the room there is, and this one is below each of them
abbrev pub HasNoRoom : ℕ → List ℕ → ℕ → Type 0
HasNoRoom room heights height = (length heights ≡ room) × All (λ h. height < h) heights

-- a book has room for a record of this height: there is a header of it, or it is one of the book's
unfoldable pub IsKept : SeenChain → List ℕ → ℕ → Type 0
IsKept chain book height = Contains book height ⊎ HasHeader chain height

-- the same as a test
unfoldable pub is_kept : SeenChain → List ℕ → ℕ → Bool
is_kept chain book height = list_any (λ h. h == height) book || list_any (λ (c : Commit). c.header.now.height == height) chain.commits.items

-- a client that tracks the chain at a place has stored a record of this height
unfoldable pub IsStored : ImportSetup → List SeenClient → ℕ → ℕ → Type 0
IsStored setup clients place height =
    (i : ℕ) × (c : ClientSetup) × (seen : SeenClient) × (slice_get setup.clients.items i ≡ Some c) × (slice_get clients i ≡ Some seen)
    × (c.tracks ≡ place) × Any (λ (s : Stored). s.state.now.height ≡ height) seen.stored.items

-- these are some of a list's elements: each has the first property, and each element that isn't among them has the second
abbrev pub AreThose : {X : Type 0} → (X → Type 0) → (X → Type 0) → List X → List X → Type 0
AreThose Has Other all those = All Has those × All (Contains all) those × All (λ x. Contains those x ⊎ Other x) all

-- of the heights of records that clients of the chain at a place have stored, and that have no header, these are the highest, as
-- many as there is room for, by rising height
unfoldable pub IsBookOf : ImportSetup → List SeenClient → ℕ → SeenChain → List ℕ → Type 0
IsBookOf setup clients place chain book =
    (length book ≤ room_of chain)
    × IsStrictlyIncreasing book
    × All (λ h. IsStored setup clients place h × ¬ HasHeader chain h) book
    × ((h : ℕ) → IsStored setup clients place h → IsKept chain book h ⊎ HasNoRoom (room_of chain) book h)

-- the lists are equally long, and this holds of the elements at each place
abbrev pub AtEachPlace : {X Y : Type 0} → (ℕ → X → Y → Type 0) → List X → List Y → Type 0
AtEachPlace {X = X} {Y = Y} Holds xs ys =
    (length ys ≡ length xs) × ((i : ℕ) → (x : X) → (y : Y) → slice_get xs i ≡ Some x → slice_get ys i ≡ Some y → Holds i x y)

-- each chain has its book
abbrev pub AreBooks : ImportSetup → List SeenChain → List SeenClient → List (Vec ℕ Global) → Type 0
AreBooks setup chains clients books = AtEachPlace (λ place chain book. IsBookOf setup clients place chain book.items) chains books

-- of the records of the client at a place these are those that the tracked chain's book has room for, in the records' order
unfoldable pub AreKeptOf : List SeenChain → List SeenClient → List (Vec ℕ Global) → ℕ → ClientSetup → List Stored → Type 0
AreKeptOf chains clients books number c kept =
    (seen : SeenClient) → (chain : SeenChain) → (book : Vec ℕ Global) → slice_get clients number ≡ Some seen → slice_get chains c.tracks ≡ Some chain → slice_get books c.tracks ≡ Some book
    → AreThose (λ (s : Stored). IsKept chain book.items s.state.now.height) (λ (s : Stored). ¬ IsKept chain book.items s.state.now.height) seen.stored.items kept
    × (kept ≡ filter (λ (s : Stored). is_kept chain book.items s.state.now.height) seen.stored.items)

-- each client has those of its records
abbrev pub AreKept : ImportSetup → List SeenChain → List SeenClient → List (Vec ℕ Global) → List (Vec Stored Global) → Type 0
AreKept setup chains clients books records = AtEachPlace (λ number c kept. AreKeptOf chains clients books number c kept.items) setup.clients.items records

-- each chain has a book, and each client those of its records that there is room for
abbrev pub FitBooks : ImportSetup → List SeenChain → List SeenClient → List (Vec Stored Global) → Type 0
FitBooks setup chains clients records = (books : List (Vec ℕ Global)) × AreBooks setup chains clients books × AreKept setup chains clients books records

-- ---- headers

-- a book has room for these headers of a chain: of those that were seen the highest
abbrev pub FitsHeaders : List Commit → List Commit → Type 0
FitsHeaders seen kept = (length kept ≤ 4096) × (kept ≡ drop (length seen - 4096) seen)
