-- What is left of a list, an element more; and where its elements stand then.
use Rattle.std.proofs.Common.{◌≡◌, ℕ, ◌+◌, ◌<◌, List, [], ◌∷◌, ◌++◌, map, filter, take, get_or, length, Bool, true, false, cond, refl, ap, sym, ◌∙◌}
use Rattle.std.proofs.lemmas.List.{take_more, map_push}
use Rattle.std.proofs.lemmas.List.Elements.{filter_more}

append_nil : {A : Type 0} (xs : List A) → xs ++ [] ≡ xs
append_nil [] = refl
append_nil (x ∷ xs) = ap (λ ys. x ∷ ys) (append_nil xs)

-- of the elements so far those that pass a test, where the next one does, and where it doesn't
more_yes : {X : Type 0} (q : X → Bool) (xs : List X) (i : ℕ) (x : X) → i < length xs → x ≡ get_or xs i x → q x ≡ true → filter q (take (i + 1) xs) ≡ filter q (take i xs) ++ x ∷ []
more_yes q xs i x small is pass =
    filter_more q xs i x small ∙ ap (λ y. filter q (take i xs) ++ cond (q y) (y ∷ []) []) (sym is) ∙ ap (λ b. filter q (take i xs) ++ cond b (x ∷ []) []) pass

more_no : {X : Type 0} (q : X → Bool) (xs : List X) (i : ℕ) (x : X) → i < length xs → x ≡ get_or xs i x → q x ≡ false → filter q (take (i + 1) xs) ≡ filter q (take i xs)
more_no q xs i x small is fail =
    filter_more q xs i x small ∙ ap (λ y. filter q (take i xs) ++ cond (q y) (y ∷ []) []) (sym is) ∙ ap (λ b. filter q (take i xs) ++ cond b (x ∷ []) []) fail ∙ append_nil (filter q (take i xs))

-- ---- the same of a list that has them, each by itself, changed, or changed and viewed

pub stayed : {X : Type 0} (q : X → Bool) (done : List X) (xs : List X) (i : ℕ) (x : X) → i < length xs → x ≡ get_or xs i x → q x ≡ true → done ≡ filter q (take i xs) → done ++ x ∷ [] ≡ filter q (take (i + 1) xs)
stayed q done xs i x small is pass was = ap (λ l. l ++ x ∷ []) was ∙ sym (more_yes q xs i x small is pass)

pub went : {X : Type 0} (q : X → Bool) (done : List X) (xs : List X) (i : ℕ) (x : X) → i < length xs → x ≡ get_or xs i x → q x ≡ false → done ≡ filter q (take i xs) → done ≡ filter q (take (i + 1) xs)
went q done xs i x small is fail was = was ∙ sym (more_no q xs i x small is fail)

pub moved : {X Y : Type 0} (q : X → Bool) (h : X → Y) (done : List Y) (y : Y) (xs : List X) (i : ℕ) (x : X) → i < length xs → x ≡ get_or xs i x → q x ≡ true → y ≡ h x → done ≡ map h (filter q (take i xs)) → done ++ y ∷ [] ≡ map h (filter q (take (i + 1) xs))
moved q h done y xs i x small is pass so was =
    ap (λ l. l ++ y ∷ []) was ∙ ap (λ z. map h (filter q (take i xs)) ++ z ∷ []) so ∙ sym (map_push h (filter q (take i xs)) x) ∙ sym (ap (map h) (more_yes q xs i x small is pass))

pub passed : {X Y : Type 0} (q : X → Bool) (h : X → Y) (done : List Y) (xs : List X) (i : ℕ) (x : X) → i < length xs → x ≡ get_or xs i x → q x ≡ false → done ≡ map h (filter q (take i xs)) → done ≡ map h (filter q (take (i + 1) xs))
passed q h done xs i x small is fail was = was ∙ sym (ap (map h) (more_no q xs i x small is fail))

pub viewed : {X Y Z : Type 0} (v : Z → Y) (q : X → Bool) (h : X → Y) (done : List Z) (z : Z) (xs : List X) (i : ℕ) (x : X) → i < length xs → x ≡ get_or xs i x → q x ≡ true → v z ≡ h x → map v done ≡ map h (filter q (take i xs)) → map v (done ++ z ∷ []) ≡ map h (filter q (take (i + 1) xs))
viewed v q h done z xs i x small is pass so was = map_push v done z ∙ moved q h (map v done) (v z) xs i x small is pass so was

pub each : {X Y Z : Type 0} (v : Z → Y) (h : X → Y) (done : List Z) (z : Z) (xs : List X) (i : ℕ) (x : X) → i < length xs → x ≡ get_or xs i x → v z ≡ h x → map v done ≡ map h (take i xs) → map v (done ++ z ∷ []) ≡ map h (take (i + 1) xs)
each v h done z xs i x small is so was =
    map_push v done z ∙ ap (λ l. l ++ v z ∷ []) was ∙ ap (λ y. map h (take i xs) ++ y ∷ []) so ∙ sym (map_push h (take i xs) x)
    ∙ ap (λ y. map h (take i xs ++ y ∷ [])) is ∙ sym (ap (map h) (take_more xs i x small))

pub ruleset leaving = (stayed, went, moved, passed, viewed, each)
