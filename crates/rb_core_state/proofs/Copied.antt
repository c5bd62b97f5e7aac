-- Lists of copies and of new elements, as they are made.
use Rattle.std.proofs.Common.{◌≡◌, ℕ, ◌+◌, ◌<◌, List, [], ◌∷◌, ◌++◌, length, map, take, get_or, sym, ◌∙◌}
use Rattle.std.proofs.lemmas.List.{map-append, map_more}

-- one more element, which is seen like what it was made of
pub one_made : {X Y Z : Type 0} (f : X → Z) (g : Y → Z) (done : List X) (ys : List Y) (i : ℕ) (x : X) (y : Y) → i < length ys → f x ≡ g (get_or ys i y) → map f done ≡ map g (take i ys)
    → map f (done ++ x ∷ []) ≡ map g (take (i + 1) ys)
one_made f g done ys i x y lt e h = map-append f done (x ∷ []) ∙ (λ j. h j ++ e j ∷ []) ∙ sym (map_more g ys i y lt)

-- one more copy
pub one_more : {X Y : Type 0} (f : X → Y) (done xs : List X) (i : ℕ) (x y : X) → i < length xs → f x ≡ f (get_or xs i y) → map f done ≡ map f (take i xs)
    → map f (done ++ x ∷ []) ≡ map f (take (i + 1) xs)
one_more f = one_made f f
