-- The sets that were seen of a chain.
use Rattle.std.specs.Prelude.{◌≡◌, ◌⊎◌, ◌++◌, ◌∷◌, [], ℕ, List, Some, Any, IsSomeAnd, slice_get}
use Rattle.std.specs.BTreeMap.{BTreeMap, get}
use Rattle.std.specs.Cmp.Lexicographic.{slice_cmp}
use Rattle.std.specs.Ordering.{nat_cmp}
use Rattle.rb_valset.specs.ValidatorSet.{set_hash}
use Rattle.rb_import_check.specs.declared.sets.SeenSet.{SeenSet}

-- a set of this hash was seen
abbrev pub WasSeen : List SeenSet → List ℕ → Type 0
WasSeen sets hash = Any (λ s. set_hash s.set ≡ hash) sets

-- a set was kept beside those that were seen, if none of its hash was
abbrev pub KeepsSet : SeenSet → List SeenSet → List SeenSet → Type 0
KeepsSet seen before after =
    (WasSeen before (set_hash seen.set) × (after ≡ before)) ⊎ ((¬ WasSeen before (set_hash seen.set)) × (after ≡ before ++ seen ∷ []))

-- the set at this place is of this hash
abbrev pub IsPlaceOf : List SeenSet → List ℕ → ℕ → Type 0
IsPlaceOf sets hash place = IsSomeAnd (slice_get sets place) (λ s. set_hash s.set ≡ hash)

-- the map gives the hash of each set the set's place
abbrev pub AreIndexed : List SeenSet → BTreeMap (List ℕ) ℕ → Type 0
AreIndexed sets places = (i : ℕ) → (s : SeenSet) → slice_get sets i ≡ Some s → get (slice_cmp nat_cmp) places (set_hash s.set) ≡ Some i
