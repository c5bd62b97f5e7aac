-- Lemmas on reading as steps.
use Rattle.std.proofs.Common.{◌≡◌, ◌≢◌, ℕ, suc, length, List, [], ◌∷◌, map, Result, Err, Option, Some, None, option_map, Bool, true, false, not, cond, ◌||◌, Bor, String, Global, string_bytes, refl, ap, sym, ◌∙◌}
use Rattle.std.specs.List.{list_any, find}
use Rattle.std.specs.Str.{bytes_eq}
use Rattle.std.specs.Map.{keys_of}
use Rattle.toml.specs.declared.value.Value.{Value}
use Rattle.toml.specs.View.{members_view, items_view}
use Rattle.rb_script_toml.specs.declared.fault.FaultName.{FaultName}
use Rattle.rb_script_toml.specs.declared.fault.FaultName.TheVariants.{WrongType}
use Rattle.rb_script_toml.specs.declared.fault.RunError.{RunError}
use Rattle.rb_script_toml.specs.declared.fault.RunError.TheVariants as errors
use Rattle.rb_script_toml.specs.Faults.{Fault, ◌>>=◌, fault, Fails, IsFault}
use Rattle.rb_script_toml.specs.Fields.{unknown_key, three, two, items_count}

pub fails-at : (Y : Type 0) (e : RunError) (name : FaultName) (path : List ℕ) → IsFault e name path → Fails {Y = Y} e (fault name path)
fails-at Y errors.NoMemory name path h = tt
fails-at Y errors.Device name path h = h
fails-at Y (errors.Fault f) name path h = ap Err (sym h)

-- a step that fails makes all fail
pub fails-first : {A B : Type 0} (e : RunError) (read : Result A Fault) (next : A → Result B Fault) → Fails e read → Fails e (read >>= next)
fails-first errors.NoMemory read next h = tt
fails-first errors.Device read next h = h
fails-first (errors.Fault f) read next h = rw h refl

pub ruleset steps = (fails-at, fails-first)

pub any-map : {B : Type 0} (p : B → Bool) (xs : List (Bor B)) → list_any (λ x. p x.now) xs ≡ list_any p (map (λ x. x.now) xs)
any-map p [] = refl
any-map p (x ∷ xs) = ap (λ b. p x.now || b) (any-map p xs)

unknown-find : (ks : List (List ℕ)) (es : List (String Global × Value)) → option_map string_bytes (find (λ k. not (list_any (λ known. bytes_eq known (string_bytes k)) ks)) (keys_of es)) ≡ unknown_key ks (members_view es)
unknown-find ks [] = refl
unknown-find ks (e ∷ es) =
    elim (list_any (λ known. bytes_eq known (string_bytes e.0)) ks) as (λ b. option_map string_bytes (cond (not b) (Some e.0) (find (λ k. not (list_any (λ known. bytes_eq known (string_bytes k)) ks)) (keys_of es))) ≡ cond b (unknown_key ks (members_view es)) (Some (string_bytes e.0))) [
      | true ↦ unknown-find ks es
      | false ↦ refl
    ]

pub first_unknown : (ks : List (List ℕ)) (es : List (String Global × Value)) (r : Option (Bor (String Global))) → option_map (λ k. k.now) r ≡ find (λ k. not (list_any (λ known. bytes_eq known (string_bytes k)) ks)) (keys_of es) → option_map (λ k. string_bytes k.now) r ≡ unknown_key ks (members_view es)
first_unknown ks es None h = ap (option_map string_bytes) h ∙ unknown-find ks es
first_unknown ks es (Some k) h = ap (option_map string_bytes) h ∙ unknown-find ks es

-- an array of another length is refused
pub three-other : (path : List ℕ) (vs : List Value) → length vs ≢ 3 → three path (items_view vs) ≡ fault WrongType path
three-other path [] h = refl
three-other path (a ∷ []) h = refl
three-other path (a ∷ b ∷ []) h = refl
three-other path (a ∷ b ∷ c ∷ []) h = absurd (h refl)
three-other path (a ∷ b ∷ c ∷ d ∷ vs) h = refl

pub two-other : (path : List ℕ) (vs : List Value) → length vs ≢ 2 → two path (items_view vs) ≡ fault WrongType path
two-other path [] h = refl
two-other path (a ∷ []) h = refl
two-other path (a ∷ b ∷ []) h = absurd (h refl)
two-other path (a ∷ b ∷ c ∷ vs) h = refl

pub items_count-view : (vs : List Value) → items_count (items_view vs) ≡ length vs
items_count-view [] = refl
items_count-view (v ∷ vs) = ap suc (items_count-view vs)

pub ruleset counted = (items_count-view)
