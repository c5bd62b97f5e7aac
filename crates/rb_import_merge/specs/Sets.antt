-- Which of a chain's sets are written: those that its headers and the written records of its clients name, as many as the book has room for.
use Rattle.std.specs.Prelude.{◌≡◌, ◌⊎◌, ◌-◌, ◌↔◌, ℕ, List, Vec, Some, Any, Contains, drop, length, slice_get}
use Rattle.std.specs.Global.{Global}
use Rattle.std.specs.List.Sorted.{IsStrictlyIncreasing}
use Rattle.rb_import_setup.specs.declared.setup.ClientSetup.{ClientSetup}
use Rattle.rb_import_setup.specs.declared.setup.ImportSetup.{ImportSetup}
use Rattle.rb_import_check.specs.declared.chain.Commit.{Commit}
use Rattle.rb_import_check.specs.declared.chain.SeenChain.{SeenChain}
use Rattle.rb_import_check.specs.declared.client.Stored.{Stored}
use Rattle.rb_import_check.specs.declared.sets.SeenSet.{SeenSet}
use Rattle.rb_import_check.specs.Sets.{IsPlaceOf}
use Rattle.rb_import_merge.specs.declared.kept.KeptSets.{KeptSets}

-- the header names the set at a place, as that of its validators or of the next ones (CometBFT's `validators_hash`, `next_validators_hash`)
abbrev pub NamesSet : List SeenSet → ℕ → Commit → Type 0
NamesSet sets p c = IsPlaceOf sets c.header.now.set p ⊎ IsPlaceOf sets c.header.now.next p

-- the record names the set at a place, as that of the next validators
abbrev pub NamesNext : List SeenSet → ℕ → Stored → Type 0
NamesNext sets p s = IsPlaceOf sets s.state.now.next p

-- a written record of a client that tracks the chain at a place names the set at place p as that of the next validators
unfoldable pub IsNextOfRecord : ImportSetup → List (Vec Stored Global) → ℕ → List SeenSet → ℕ → Type 0
IsNextOfRecord setup records place sets p =
    (i : ℕ) × (c : ClientSetup) × (written : Vec Stored Global) × (slice_get setup.clients.items i ≡ Some c) × (slice_get records i ≡ Some written)
    × (c.tracks ≡ place) × Any (NamesNext sets p) written.items

-- of the sets that were seen of the chain at a place, the one at place p is named: by a header of the chain, or by a written record
abbrev pub IsNamed : ImportSetup → List (Vec Stored Global) → ℕ → SeenChain → ℕ → Type 0
IsNamed setup records place chain p =
    Any (NamesSet chain.sets.sets.items p) chain.commits.items ⊎ IsNextOfRecord setup records place chain.sets.sets.items p

-- of these places the highest are kept, as many as a book has room for sets, and so many others there are
abbrev pub KeepsHighest : List ℕ → KeptSets → Type 0
KeepsHighest places kept = (kept.places.items ≡ drop (length places - 1024) places) × (kept.left_out ≡ length places - 1024)

-- so it is with the places that have a property, each once, rising
unfoldable pub KeepsHighestOf : (ℕ → Type 0) → KeptSets → Type 0
KeepsHighestOf Has kept = (places : List ℕ) × IsStrictlyIncreasing places × ((p : ℕ) → Contains places p ↔ Has p) × KeepsHighest places kept

-- of the sets of the chain at a place that are named, the highest are kept
abbrev pub AreKeptSets : ImportSetup → List (Vec Stored Global) → ℕ → SeenChain → KeptSets → Type 0
AreKeptSets setup records place chain kept = KeepsHighestOf (IsNamed setup records place chain) kept

-- the places that have a property came to these
unfoldable pub Gains : (ℕ → Type 0) → List ℕ → List ℕ → Type 0
Gains Has before after = (p : ℕ) → Contains after p ↔ (Contains before p ⊎ Has p)
