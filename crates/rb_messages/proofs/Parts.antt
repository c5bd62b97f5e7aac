-- Parts of lists.
use Rattle.std.proofs.Common.{◌≡◌, ◌≤◌, ℕ, List, [], ◌++◌, append-nil, ap, drop, length, map, subst, sym, take, ◌∙◌}
use Rattle.std.specs.List.{flat_map}
use Rattle.std.proofs.lemmas.List.{drop_all, drop-map, take-map}

part_of_map : {X Y : Type 0} (f : X → Y) (n m : ℕ) (xs : List X) → take n (drop m (map f xs)) ≡ map f (take n (drop m xs))
part_of_map f n m xs = ap (take n) (drop-map f m xs) ∙ take-map f n (drop m xs)

-- what is made of all of a part
pub made_of_part : {X Y Z : Type 0} (f : X → Y) (g : Y → List Z) (made : List Z) (part : List X) (i n m : ℕ) (xs : List X)
    → part ≡ take n (drop m xs) → length part ≤ i → made ++ flat_map g (map f (drop i part)) ≡ flat_map g (map f part)
    → made ≡ flat_map g (take n (drop m (map f xs)))
made_of_part f g made part i n m xs is past before =
    let here : made ++ [] ≡ flat_map g (map f part) = subst (λ zs. made ++ flat_map g (map f zs) ≡ flat_map g (map f part)) (drop_all i part past) before in
    sym (append-nil made) ∙ here ∙ ap (λ zs. flat_map g (map f zs)) is ∙ ap (flat_map g) (sym (part_of_map f n m xs))
