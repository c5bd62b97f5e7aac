-- The verdict that a digest finds.
use Rattle.std.proofs.Common.{◌≡◌, ℕ, ◌+◌, ◌<◌, List, length, take, get_or, Option, Some, None, Bool, true, false, All, refl, sym, subst, ap, ◌∙◌}
use Rattle.std.specs.Prelude.{IsSome, option_map, slice_get}
use Rattle.std.specs.BTreeMap.{BTreeMap, get, is_at, Updates}
use Rattle.std.specs.Borrow.{Bor}
use Rattle.std.specs.Cmp.Lexicographic.{slice_cmp}
use Rattle.std.specs.Ordering.{nat_cmp}
use Rattle.std.specs.Slice.{IsItemAt}
use Rattle.std.proofs.lemmas.Bool.{true≢false}
use Rattle.std.proofs.lemmas.List.Elements.{All-more}
use Rattle.std.proofs.lemmas.Option.{none-some, same_Some, slice_get-get_or, slice_get_past, slice_get_within, get_or_from_slice_get}
use Rattle.std.proofs.lemmas.Map.Text.{is_eq-slice_cmp}
use Rattle.std.proofs.lemmas.Slice.Eq.{bytes_eq-Decides}
use Rattle.rb_import_answers.specs.declared.verdicts.CommitVerdict.{CommitVerdict}
use Rattle.rb_import_check.specs.Verdicts.{AreFound, IsOnOther, IsVerdictOn}

abbrev pub Places : Type 0
Places = BTreeMap (List ℕ) ℕ

-- what the map gives is the place of a verdict of this digest
abbrev pub ArePlaces : List CommitVerdict → Places → Type 0
ArePlaces verdicts places =
    (digest : List ℕ) (i : ℕ) → get (slice_cmp nat_cmp) places digest ≡ Some i → option_map (λ (v : CommitVerdict). v.digest) (slice_get verdicts i) ≡ Some digest

-- the map has the digest of each
abbrev pub HasEach : Places → List CommitVerdict → Type 0
HasEach places verdicts = All (λ (v : CommitVerdict). IsSome (get (slice_cmp nat_cmp) places v.digest)) verdicts

-- ---- what is found

pub found_on : (verdicts : List CommitVerdict) (places : Places) (digest : List ℕ) (i : ℕ) (o : Option CommitVerdict) → AreFound verdicts places → get (slice_cmp nat_cmp) places digest ≡ Some i
    → slice_get verdicts i ≡ o → IsVerdictOn verdicts digest o
found_on verdicts places digest i (Some v) found is at =
    let same : v.digest ≡ digest = same_Some v.digest digest (subst (λ o. option_map (λ (w : CommitVerdict). w.digest) o ≡ Some digest) at (found.0 digest i is)) in
    ((i, slice_get_within verdicts i v at, get_or_from_slice_get verdicts i v v at), same)
found_on verdicts places digest i None found is at = absurd (none-some digest (subst (λ o. option_map (λ (w : CommitVerdict). w.digest) o ≡ Some digest) at (found.0 digest i is)))

pub none_on : (verdicts : List CommitVerdict) (places : Places) (digest : List ℕ) → AreFound verdicts places → get (slice_cmp nat_cmp) places digest ≡ None → All (IsOnOther digest) verdicts
unfolding IsOnOther
none_on verdicts places digest found none = λ k d small same.
    let there : IsSome (get (slice_cmp nat_cmp) places (get_or verdicts k d).digest) = found.1 k d small in
    let gone : IsSome {T = ℕ} None = subst (λ (o : Option ℕ). IsSome o) (ap (get (slice_cmp nat_cmp) places) same ∙ none) there in
    absurd (true≢false (sym gone))

-- what a slice lends at a place is what stands there
pub lent : (verdicts : List CommitVerdict) (i : ℕ) (r : Option (Bor CommitVerdict)) → IsItemAt verdicts i r → slice_get verdicts i ≡ option_map (λ v. v.now) r
lent verdicts i (Some v) at = slice_get-get_or verdicts i v.now at.3.0 ∙ ap Some (sym at.1)
lent verdicts i None at = slice_get_past verdicts i at.3

-- ---- one verdict more

module _ (verdicts : List CommitVerdict) (m n : Places) (i : ℕ) (v : CommitVerdict) (updates : Updates (slice_cmp nat_cmp) m n v.digest (Some i)) where
  place_at : ArePlaces verdicts m → slice_get verdicts i ≡ Some v → (digest : List ℕ) (k : ℕ) → get (slice_cmp nat_cmp) n digest ≡ Some k
      → (b : Bool) → is_at (slice_cmp nat_cmp v.digest) digest ≡ b → option_map (λ (w : CommitVerdict). w.digest) (slice_get verdicts k) ≡ Some digest
  place_at old at digest k is true e =
      let same : v.digest ≡ digest = (bytes_eq-Decides v.digest digest).0 (sym (is_eq-slice_cmp v.digest digest) ∙ e) in
      let here : k ≡ i = same_Some k i (sym is ∙ ap (get (slice_cmp nat_cmp) n) (sym same) ∙ updates.1) in
      ap (λ j. option_map (λ (w : CommitVerdict). w.digest) (slice_get verdicts j)) here ∙ ap (option_map (λ (w : CommitVerdict). w.digest)) at ∙ ap (λ d. Some d) same
  place_at old at digest k is false e = old digest k (sym (updates.2 digest e) ∙ is)

  pub places_more : ArePlaces verdicts m → slice_get verdicts i ≡ Some v → ArePlaces verdicts n
  places_more old at digest k is = place_at old at digest k is _ refl

  stays : (digest : List ℕ) → IsSome (get (slice_cmp nat_cmp) m digest) → (b : Bool) → is_at (slice_cmp nat_cmp v.digest) digest ≡ b → IsSome (get (slice_cmp nat_cmp) n digest)
  stays digest was true e =
      let same : v.digest ≡ digest = (bytes_eq-Decides v.digest digest).0 (sym (is_eq-slice_cmp v.digest digest) ∙ e) in
      subst (λ (o : Option ℕ). IsSome o) (sym (ap (get (slice_cmp nat_cmp) n) (sym same) ∙ updates.1)) refl
  stays digest was false e = subst (λ (o : Option ℕ). IsSome o) (sym (updates.2 digest e)) was

  pub each_more : HasEach m (take i verdicts) → i < length verdicts → v ≡ get_or verdicts i v → HasEach n (take (i + 1) verdicts)
  each_more old small is =
      let now : IsSome (get (slice_cmp nat_cmp) n v.digest) = subst (λ (o : Option ℕ). IsSome o) (sym updates.1) refl in
      All-more (λ (w : CommitVerdict). IsSome (get (slice_cmp nat_cmp) n w.digest)) verdicts i v small (λ k d within. stays _ (old k d within) _ refl)
      (subst (λ (w : CommitVerdict). IsSome (get (slice_cmp nat_cmp) n w.digest)) is now)

-- a verdict that stands at a place
pub at_place : (verdicts : List CommitVerdict) (i : ℕ) (v : CommitVerdict) → i < length verdicts → v ≡ get_or verdicts i v → slice_get verdicts i ≡ Some v
at_place verdicts i v small is = slice_get-get_or verdicts i v small ∙ ap (λ w. Some w) (sym is)
