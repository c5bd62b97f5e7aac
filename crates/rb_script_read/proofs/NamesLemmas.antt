-- The maps of names, and the names that they hold.
use Rattle.std.proofs.Common.{◌≡◌, ◌≢◌, ℕ, zero, suc, ◌<◌, ◌==◌, ◌&&◌, Bool, true, false, cond, List, [], ◌∷◌, ◌++◌, length, Some, option_and_then, slice_get, slice_set, String, Global, string_bytes, refl, sym, ap, subst, ◌∙◌, arith}
use Rattle.std.specs.BTreeMap.{BTreeMap, get_by_text, UpdatesBy}
use Rattle.std.specs.String.{string_cmp}
use Rattle.std.specs.Str.{bytes_eq}
use Rattle.std.proofs.lemmas.Bool.{eqb-true, eq-eqb, true≢false}
use Rattle.std.proofs.lemmas.Map.Text.{btree_map_updates_text}
use Rattle.rb_script_read.specs.Names.{names_in, with_name}

at-push : (maps : List (BTreeMap (String Global) (List ℕ))) (m : BTreeMap (String Global) (List ℕ)) → m.entries ≡ []
    → (chain : ℕ) (name : List ℕ) → names_in (maps ++ m ∷ []) chain name ≡ names_in maps chain name
at-push [] m none zero name = rw none refl
at-push [] m none (suc chain) name = refl
at-push (n ∷ maps) m none zero name = refl
at-push (n ∷ maps) m none (suc chain) name = at-push maps m none chain name

-- a map with no names adds none
pub names_in-push : (maps : List (BTreeMap (String Global) (List ℕ))) (m : BTreeMap (String Global) (List ℕ)) → m.entries ≡ []
    → names_in (maps ++ m ∷ []) ≡ names_in maps
names_in-push maps m none = λ i chain name. at-push maps m none chain name i

slice_get-set_other : {A : Type 0} (xs : List A) (i j : ℕ) (y : A) → j ≢ i → slice_get (slice_set xs i y) j ≡ slice_get xs j
slice_get-set_other [] i j y h = refl
slice_get-set_other (x ∷ xs) zero zero y h = absurd (h refl)
slice_get-set_other (x ∷ xs) zero (suc j) y h = refl
slice_get-set_other (x ∷ xs) (suc i) zero y h = refl
slice_get-set_other (x ∷ xs) (suc i) (suc j) y h = slice_get-set_other xs i j y (λ e. h (ap suc e))

slice_get-set_same : {A : Type 0} (xs : List A) (i : ℕ) (y : A) → i < length xs → slice_get (slice_set xs i y) i ≡ Some y
slice_get-set_same [] i y h = absurd (omega arith)
slice_get-set_same (x ∷ xs) zero y h = refl
slice_get-set_same (x ∷ xs) (suc i) y h = slice_get-set_same xs i y (omega arith)

module _ (maps : List (BTreeMap (String Global) (List ℕ))) (chain : ℕ) (m n : BTreeMap (String Global) (List ℕ)) (key : String Global) (hash : List ℕ)
    (here : slice_get maps chain ≡ Some m) (within : chain < length maps) (updates : UpdatesBy string_cmp (string_cmp key) m n (Some hash)) where
  at_chain : (name : List ℕ) → names_in (slice_set maps chain n) chain name ≡ cond (bytes_eq (string_bytes key) name) (Some hash) (names_in maps chain name)
  at_chain name = rw (slice_get-set_same maps chain n within, here) (btree_map_updates_text (string_bytes key) m n (Some hash) updates name)

  at_any : (c : ℕ) (name : List ℕ) (b : Bool) → (c == chain) ≡ b
      → names_in (slice_set maps chain n) c name ≡ cond (b && bytes_eq (string_bytes key) name) (Some hash) (names_in maps c name)
  at_any c name true e =
      subst (λ x. names_in (slice_set maps chain n) x name ≡ cond (bytes_eq (string_bytes key) name) (Some hash) (names_in maps x name)) (sym (eqb-true c chain e)) (at_chain name)
  at_any c name false e =
      let other : c ≢ chain = λ q. true≢false (sym (eq-eqb c chain q) ∙ e) in
      ap (option_and_then (λ x. get_by_text x name)) (slice_get-set_other maps chain c n other)

  -- a key that is put into a chain's map is one more name
  pub names_in-insert : names_in (slice_set maps chain n) ≡ with_name chain (string_bytes key) hash (names_in maps)
  names_in-insert = λ i c name. at_any c name (c == chain) refl i

module _ (maps : List (BTreeMap (String Global) (List ℕ))) (chain : ℕ) (m n : BTreeMap (String Global) (List ℕ))
    (here : slice_get maps chain ≡ Some m) (within : chain < length maps) (same : n.entries ≡ m.entries) where
  kept_at : (name : List ℕ) → names_in (slice_set maps chain n) chain name ≡ names_in maps chain name
  kept_at name = rw (slice_get-set_same maps chain n within, here, same) refl

  kept_any : (c : ℕ) (name : List ℕ) (b : Bool) → (c == chain) ≡ b → names_in (slice_set maps chain n) c name ≡ names_in maps c name
  kept_any c name true e = subst (λ x. names_in (slice_set maps chain n) x name ≡ names_in maps x name) (sym (eqb-true c chain e)) (kept_at name)
  kept_any c name false e =
      let other : c ≢ chain = λ q. true≢false (sym (eq-eqb c chain q) ∙ e) in
      ap (option_and_then (λ x. get_by_text x name)) (slice_get-set_other maps chain c n other)

  -- a map with the same entries in the place of a chain's changes no name
  pub names_in-kept : names_in (slice_set maps chain n) ≡ names_in maps
  names_in-kept = λ i c name. kept_any c name (c == chain) refl i
