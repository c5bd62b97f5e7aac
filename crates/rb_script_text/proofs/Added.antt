-- Parts of JSON that are added one after the other.
use Rattle.std.proofs.Common.{◌≡◌, ℕ, true, List, [], ◌∷◌, ◌++◌, codes, if◌then◌else◌, Result, Ok, Err, append_assoc, refl, sym, ap, ◌∙◌}
use Rattle.std.specs.Result.{OnOk, is_ok}
use Rattle.rb_script_text.specs.Json.{Json, json_text, name_text, more_text}

-- two parts in braces, of which the last may fail
pub closed_ok : {T E : Type 0} (r : Result T E) (old x y z new a b : List ℕ) → new ≡ (if is_ok r then z ++ codes "}" else z) → z ≡ y ++ b → y ≡ x ++ a
    → x ≡ old ++ codes "{" → OnOk r (new ≡ old ++ (codes "{" ++ (a ++ b) ++ codes "}"))
closed_ok (Ok u) old x y z new a b last second first opened = rw last (rw second (rw first (rw opened (simp append_assoc refl))))
closed_ok (Err e) old x y z new a b last second first opened = tt

-- members behind others, and more of them behind these
pub more_append : (xs ys : List (List ℕ × Json)) → more_text (xs ++ ys) ≡ more_text xs ++ more_text ys
more_append [] ys = refl
more_append (m ∷ xs) ys =
    ap (λ t. name_text true m.0 ++ json_text m.1 ++ t) (more_append xs ys)
    ∙ sym (append_assoc (name_text true m.0 ++ json_text m.1) (more_text xs) (more_text ys))

-- members, and more of them behind these, of which the last may fail
pub members_told : {T E : Type 0} (r : Result T E) (old mid new : List ℕ) (xs ys : List (List ℕ × Json)) → mid ≡ old ++ more_text xs
    → OnOk r (new ≡ mid ++ more_text ys) → OnOk r (new ≡ old ++ more_text (xs ++ ys))
members_told (Ok u) old mid new xs ys first last = rw last (rw first (rw (more_append xs ys) (append_assoc old (more_text xs) (more_text ys))))
members_told (Err e) old mid new xs ys first last = tt
