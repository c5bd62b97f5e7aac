-- The set that a hash finds, and one set more.
use Rattle.std.proofs.Common.{◌≡◌, ◌≢◌, ◌⊎◌, if◌then◌else◌, ℕ, zero, suc, ◌<◌, List, [], ◌∷◌, ◌++◌, length, get_or, Option, Some, None, Bool, true, false, All, inl, inr, refl, sym, subst, ap, ◌∙◌}
use Rattle.std.specs.Prelude.{IsSomeAnd, slice_get}
use Rattle.std.specs.BTreeMap.{BTreeMap, get, is_at, Updates}
use Rattle.std.specs.Cmp.Lexicographic.{slice_cmp}
use Rattle.std.specs.Ordering.{nat_cmp}
use Rattle.std.proofs.lemmas.Option.{none-some, same_Some, slice_get-get_or, slice_get_within, get_or_from_slice_get}
use Rattle.std.proofs.lemmas.List.Quantifiers.{Any-push}
use Rattle.std.proofs.lemmas.Map.Text.{is_eq-slice_cmp}
use Rattle.std.proofs.lemmas.Slice.Eq.{bytes_eq-Decides}
use Rattle.rb_valset.specs.ValidatorSet.{set_hash}
use Rattle.rb_import_check.specs.declared.sets.SeenSet.{SeenSet}
use Rattle.rb_import_check.specs.Sets.{AreIndexed, IsPlaceOf, WasSeen}

there : {A : Type 0} (xs : List A) (k : ℕ) (x : A) → k < length xs → get_or xs k x ≡ x → slice_get xs k ≡ Some x
there xs k x small is = slice_get-get_or xs k x small ∙ ap (λ y. Some y) is

-- a set that was seen stands at the place of its hash
at_place : (sets : List SeenSet) (places : BTreeMap (List ℕ) ℕ) (hash : List ℕ) → AreIndexed sets places → WasSeen sets hash
    → (i : ℕ) × (s : SeenSet) × (get (slice_cmp nat_cmp) places hash ≡ Some i) × (slice_get sets i ≡ Some s) × (set_hash s.set ≡ hash)
at_place sets places hash indexed (k, s, small, is, same) =
    let at : slice_get sets k ≡ Some s = there sets k s small is in
    (k, s, subst (λ h. get (slice_cmp nat_cmp) places h ≡ Some k) same (indexed k s at), at, same)

-- none of this hash was seen where it has no place
pub unseen_none : (sets : List SeenSet) (places : BTreeMap (List ℕ) ℕ) (hash : List ℕ) → AreIndexed sets places
    → get (slice_cmp nat_cmp) places hash ≡ None → WasSeen sets hash → ⊥
unseen_none sets places hash indexed none seen = let w = at_place sets places hash indexed seen in none-some w.0 (sym none ∙ w.2)

-- nor where there is none at its place
pub unseen_past : (sets : List SeenSet) (places : BTreeMap (List ℕ) ℕ) (hash : List ℕ) (i : ℕ) → AreIndexed sets places
    → get (slice_cmp nat_cmp) places hash ≡ Some i → slice_get sets i ≡ None → WasSeen sets hash → ⊥
unseen_past sets places hash i indexed found past seen =
    let w = at_place sets places hash indexed seen in
    let same : i ≡ w.0 = same_Some i w.0 (sym found ∙ w.2) in
    none-some w.1 (sym past ∙ ap (slice_get sets) same ∙ w.3)

-- nor where its place has another
pub unseen_other : (sets : List SeenSet) (places : BTreeMap (List ℕ) ℕ) (hash : List ℕ) (i : ℕ) (s : SeenSet) → AreIndexed sets places
    → get (slice_cmp nat_cmp) places hash ≡ Some i → slice_get sets i ≡ Some s → set_hash s.set ≢ hash → WasSeen sets hash → ⊥
unseen_other sets places hash i s indexed found at other seen =
    let w = at_place sets places hash indexed seen in
    let same : i ≡ w.0 = same_Some i w.0 (sym found ∙ w.2) in
    let one : s ≡ w.1 = same_Some s w.1 (sym at ∙ ap (slice_get sets) same ∙ w.3) in
    other (ap (λ t. set_hash t.set) one ∙ w.4)

-- where a set of this hash stands, it was seen
pub seen_at : (sets : List SeenSet) (hash : List ℕ) (i : ℕ) (s : SeenSet) → slice_get sets i ≡ Some s → set_hash s.set ≡ hash → WasSeen sets hash
seen_at sets hash i s at same = (i, s, slice_get_within sets i s at, get_or_from_slice_get sets i s s at, same)

-- and at no other place than the map's
pub only_place : (sets : List SeenSet) (places : BTreeMap (List ℕ) ℕ) (hash : List ℕ) (i other : ℕ) → AreIndexed sets places
    → get (slice_cmp nat_cmp) places hash ≡ Some i → IsPlaceOf sets hash other → other ≡ i
only_place sets places hash i other indexed found there = at _ refl there
  where
    at : (o : Option SeenSet) → slice_get sets other ≡ o → IsSomeAnd o (λ (s : SeenSet). set_hash s.set ≡ hash) → other ≡ i
    at (Some s) is same = same_Some other i (sym (subst (λ h. get (slice_cmp nat_cmp) places h ≡ Some other) same (indexed other s is)) ∙ found)
    at None is same = absurd same

-- and no other set has the hash of the one at that place
pub only_set : (sets : List SeenSet) (places : BTreeMap (List ℕ) ℕ) (hash : List ℕ) (i : ℕ) (s : SeenSet) → AreIndexed sets places
    → get (slice_cmp nat_cmp) places hash ≡ Some i → slice_get sets i ≡ Some s → All (λ (t : SeenSet). set_hash t.set ≡ hash → t ≡ s) sets
only_set sets places hash i s indexed found at = λ k d small same.
    let there : slice_get sets k ≡ Some (get_or sets k d) = slice_get-get_or sets k d small in
    let place : get (slice_cmp nat_cmp) places hash ≡ Some k = subst (λ h. get (slice_cmp nat_cmp) places h ≡ Some k) same (indexed k _ there) in
    let is : k ≡ i = same_Some k i (sym place ∙ found) in
    same_Some _ s (sym there ∙ ap (slice_get sets) is ∙ at)

-- the places of other hashes stay
kept : (sets : List SeenSet) (m n : BTreeMap (List ℕ) ℕ) (hash : List ℕ) (i : ℕ) (s : SeenSet) → AreIndexed sets m → (WasSeen sets hash → ⊥)
    → Updates (slice_cmp nat_cmp) m n hash (Some (length sets)) → slice_get sets i ≡ Some s
    → (b : Bool) → is_at (slice_cmp nat_cmp hash) (set_hash s.set) ≡ b → get (slice_cmp nat_cmp) n (set_hash s.set) ≡ Some i
kept sets m n hash i s indexed new updates at true e =
    let same : hash ≡ set_hash s.set = (bytes_eq-Decides hash (set_hash s.set)).0 (sym (is_eq-slice_cmp hash (set_hash s.set)) ∙ e) in
    absurd (new (i, s, slice_get_within sets i s at, get_or_from_slice_get sets i s s at, sym same))
kept sets m n hash i s indexed new updates at false e = updates.2 (set_hash s.set) e ∙ indexed i s at

pub keeps_index : (sets : List SeenSet) (m n : BTreeMap (List ℕ) ℕ) (hash : List ℕ) (place : ℕ) → AreIndexed sets m → (WasSeen sets hash → ⊥) → place ≡ length sets
    → Updates (slice_cmp nat_cmp) m n hash (Some place) → AreIndexed sets n
keeps_index sets m n hash place indexed new is updates = λ i s at.
    let now = subst (λ p. Updates (slice_cmp nat_cmp) m n hash (Some p)) is updates in
    kept sets m n hash i s indexed new now at _ refl

pushed : {A : Type 0} (xs : List A) (x : A) (i : ℕ) (s : A) → slice_get (xs ++ x ∷ []) i ≡ Some s → (slice_get xs i ≡ Some s) ⊎ ((i ≡ length xs) × (x ≡ s))
pushed [] x zero s e = inr (refl, same_Some x s e)
pushed [] x (suc i) s e = absurd (none-some s e)
pushed (y ∷ xs) x zero s e = inl e
pushed (y ∷ xs) x (suc i) s e = elim (pushed xs x i s e) [ inl at ↦ inl at | inr w ↦ inr (ap (λ k. suc k) w.0, w.1) ]

grows_index : (sets : List SeenSet) (m n : BTreeMap (List ℕ) ℕ) (seen : SeenSet) (place : ℕ) → AreIndexed sets m → (WasSeen sets (set_hash seen.set) → ⊥) → place ≡ length sets
    → Updates (slice_cmp nat_cmp) m n (set_hash seen.set) (Some place) → AreIndexed (sets ++ seen ∷ []) n
grows_index sets m n seen place indexed new is updates = λ i s at.
    elim (pushed sets seen i s at) [
      | inl old ↦ keeps_index sets m n (set_hash seen.set) place indexed new is updates i s old
      | inr w ↦ subst (λ h. get (slice_cmp nat_cmp) n h ≡ Some i) (ap (λ t. set_hash t.set) w.1) (updates.1 ∙ ap (λ k. Some k) (is ∙ sym w.0))
    ]

-- so it is when one set more is pushed, or isn't
pub stays_indexed : (sets : List SeenSet) (m n : BTreeMap (List ℕ) ℕ) (seen : SeenSet) (place : ℕ) (done : Bool) → AreIndexed sets m → (WasSeen sets (set_hash seen.set) → ⊥) → place ≡ length sets
    → Updates (slice_cmp nat_cmp) m n (set_hash seen.set) (Some place) → AreIndexed (if done then sets ++ seen ∷ [] else sets) n
stays_indexed sets m n seen place true indexed new is updates = grows_index sets m n seen place indexed new is updates
stays_indexed sets m n seen place false indexed new is updates = keeps_index sets m n (set_hash seen.set) place indexed new is updates

pub ruleset indexing = (keeps_index, Any-push)
