-- The places of identifiers, after one more.
use Rattle.std.proofs.Common.{◌≡◌, ℕ, List, [], ◌∷◌, ◌++◌, length, map, Option, Some, None, is_some, Bool, true, false, cond, String, Global, string_bytes, refl, sym, ap, subst, ◌∙◌}
use Rattle.std.specs.BTreeMap.{BTreeMap, get_by_text, UpdatesBy}
use Rattle.std.specs.List.{position}
use Rattle.std.specs.Option.{option_or}
use Rattle.std.specs.Str.{bytes_eq}
use Rattle.std.specs.String.{string_cmp}
use Rattle.std.proofs.lemmas.Bool.{false_from_ne_true, true≢false}
use Rattle.std.proofs.lemmas.List.{map_push}
use Rattle.std.proofs.lemmas.Map.Text.{btree_map_updates_text}
use Rattle.std.proofs.lemmas.Slice.Eq.{bytes_eq-Decides}
use Rattle.rb_script_config.proofs.Positions.{position-push}
use Rattle.rb_script_config.specs.Directories.{IsIndex}

other_way : (a b : List ℕ) → bytes_eq a b ≡ false → bytes_eq b a ≡ false
other_way a b e = false_from_ne_true _ (λ t. true≢false (sym ((bytes_eq-Decides a b).1 (sym ((bytes_eq-Decides b a).0 t))) ∙ e))

or-none : (o : Option ℕ) → option_or o None ≡ o
or-none (Some i) = refl
or-none None = refl

or-some : (o p : Option ℕ) → is_some o ≡ true → option_or o p ≡ o
or-some (Some i) p h = refl
or-some None p h = absurd (true≢false (sym h))

no-place : (o : Option ℕ) → is_some o ≡ false → o ≡ None
no-place (Some i) h = absurd (true≢false h)
no-place None h = refl

-- one that isn't there has its first place at the end
module _ (ids : List (List ℕ)) (id q : List ℕ) where
  new-place : position (bytes_eq id) ids ≡ None → (b : Bool) → bytes_eq id q ≡ b → position (bytes_eq q) (ids ++ id ∷ []) ≡ cond b (Some (length ids)) (position (bytes_eq q) ids)
  new-place none true e =
      let here : position (bytes_eq id) (ids ++ id ∷ []) ≡ Some (length ids) = position-push (bytes_eq id) ids id ∙ rw (none, (bytes_eq-Decides id id).1 refl) refl in
      subst (λ x. position (bytes_eq x) (ids ++ id ∷ []) ≡ Some (length ids)) ((bytes_eq-Decides id q).0 e) here
  new-place none false e = position-push (bytes_eq q) ids id ∙ rw (other_way id q e) (or-none (position (bytes_eq q) ids))

  -- one that is there keeps its first place
  old-place : is_some (position (bytes_eq id) ids) ≡ true → (b : Bool) → bytes_eq id q ≡ b → position (bytes_eq q) (ids ++ id ∷ []) ≡ position (bytes_eq q) ids
  old-place there true e =
      let here : position (bytes_eq id) (ids ++ id ∷ []) ≡ position (bytes_eq id) ids = position-push (bytes_eq id) ids id ∙ or-some (position (bytes_eq id) ids) _ there in
      subst (λ x. position (bytes_eq x) (ids ++ id ∷ []) ≡ position (bytes_eq x) ids) ((bytes_eq-Decides id q).0 e) here
  old-place there false e = position-push (bytes_eq q) ids id ∙ rw (other_way id q e) (or-none (position (bytes_eq q) ids))

added : (ids : List (List ℕ)) (m n : BTreeMap (String Global) ℕ) (key : String Global) → IsIndex ids m → is_some (get_by_text m (string_bytes key)) ≡ false
    → UpdatesBy string_cmp (string_cmp key) m n (Some (length ids)) → IsIndex (ids ++ string_bytes key ∷ []) n
added ids m n key index absent updates = λ q.
    let id = string_bytes key in
    let none : position (bytes_eq id) ids ≡ None = sym (index id) ∙ no-place (get_by_text m id) absent in
    btree_map_updates_text id m n (Some (length ids)) updates q
    ∙ ap (cond (bytes_eq id q) (Some (length ids))) (index q) ∙ sym (new-place ids id q none (bytes_eq id q) refl)

pub IsIndex-new : (ids : List (List ℕ)) (m n : BTreeMap (String Global) ℕ) (key : String Global) (id : List ℕ) (place : ℕ) → IsIndex ids m → string_bytes key ≡ id → place ≡ length ids
    → is_some (get_by_text m id) ≡ false → UpdatesBy string_cmp (string_cmp key) m n (Some place) → IsIndex (ids ++ id ∷ []) n
IsIndex-new ids m n key id place index same size absent updates =
    subst (λ x. IsIndex (ids ++ x ∷ []) n) same (
    added ids m n key index (subst (λ x. is_some (get_by_text m x) ≡ false) (sym same) absent)
    (subst (λ i. UpdatesBy string_cmp (string_cmp key) m n (Some i)) size updates)
    )

pub IsIndex-old : (ids : List (List ℕ)) (m : BTreeMap (String Global) ℕ) (id : List ℕ) → IsIndex ids m → is_some (get_by_text m id) ≡ true → IsIndex (ids ++ id ∷ []) m
IsIndex-old ids m id index there = λ q.
    index q ∙ sym (old-place ids id q (ap is_some (sym (index id)) ∙ there) (bytes_eq id q) refl)

pub map-more : {A : Type 0} (f : A → List ℕ) (before after : List A) (x : A) → after ≡ before ++ x ∷ [] → map f after ≡ map f before ++ f x ∷ []
map-more f before after x h = ap (map f) h ∙ map_push f before x
