-- Two lists whose elements are related place by place.
use Rattle.std.proofs.Common.{◌≡◌, ℕ, zero, suc, ◌⊎◌, List, [], ◌∷◌, map, set, Option, Some, None, inl, inr, refl, sym, subst}
use Rattle.std.specs.List.{AllByRecursion, AllZip, slice_get}
use Rattle.std.specs.Option.{option_map_or}
use Rattle.rb_core_model.specs.Standing.{changed_at}

-- what stands at a place of both
pub record IsPair {X Y : Type 0} (R : X → Y → Type 0) (xs : List X) (ys : List Y) (k : ℕ) : Type 0 where
  pub first : X
  pub second : Y
  pub in_first : slice_get xs k ≡ Some first
  pub in_second : slice_get ys k ≡ Some second
  pub related : R first second

pub pair_at : {X Y : Type 0} (R : X → Y → Type 0) (xs : List X) (ys : List Y) (k : ℕ) → AllZip R xs ys → ((slice_get xs k ≡ None) × (slice_get ys k ≡ None)) ⊎ IsPair R xs ys k
pair_at R [] [] k all = inl (refl, refl)
pair_at R [] (y ∷ ys) k all = absurd all
pair_at R (x ∷ xs) [] k all = absurd all
pair_at R (x ∷ xs) (y ∷ ys) zero all = inr (record { first = x; second = y; in_first = refl; in_second = refl; related = all.0 })
pair_at R (x ∷ xs) (y ∷ ys) (suc k) all = go (pair_at R xs ys k all.1)
  where
    go : ((slice_get xs k ≡ None) × (slice_get ys k ≡ None)) ⊎ IsPair R xs ys k → ((slice_get xs k ≡ None) × (slice_get ys k ≡ None)) ⊎ IsPair R (x ∷ xs) (y ∷ ys) (suc k)
    go (inl none) = inl none
    go (inr p) = inr (record { first = p.first; second = p.second; in_first = p.in_first; in_second = p.in_second; related = p.related })

pub zip_weaker : {X Y : Type 0} (R S : X → Y → Type 0) → ((x : X) (y : Y) → R x y → S x y) → (xs : List X) (ys : List Y) → AllZip R xs ys → AllZip S xs ys
zip_weaker R S f [] [] all = tt
zip_weaker R S f [] (y ∷ ys) all = all
zip_weaker R S f (x ∷ xs) [] all = all
zip_weaker R S f (x ∷ xs) (y ∷ ys) all = (f x y all.0, zip_weaker R S f xs ys all.1)

-- both changed whole, by what holds of each second one
pub zip_mapped : {X Y : Type 0} (R : X → Y → Type 0) (P : Y → Type 0) (f : X → X) (g : Y → Y) → ((x : X) (y : Y) → R x y → P y → R (f x) (g y)) → (xs : List X) (ys : List Y)
    → AllZip R xs ys → AllByRecursion P ys → AllZip R (map f xs) (map g ys)
zip_mapped R P f g new [] [] zip all = tt
zip_mapped R P f g new [] (y ∷ ys) zip all = absurd zip
zip_mapped R P f g new (x ∷ xs) [] zip all = absurd zip
zip_mapped R P f g new (x ∷ xs) (y ∷ ys) zip all = (new x y zip.0 all.0, zip_mapped R P f g new xs ys zip.1 all.1)

zip_set : {X Y : Type 0} (R : X → Y → Type 0) (xs : List X) (ys : List Y) (k : ℕ) (x : X) (y : Y) → R x y → AllZip R xs ys → AllZip R (set xs k x) (set ys k y)
zip_set R [] [] k x y new all = tt
zip_set R [] (z ∷ ys) k x y new all = absurd all
zip_set R (z ∷ xs) [] k x y new all = absurd all
zip_set R (a ∷ xs) (b ∷ ys) zero x y new all = (new, all.1)
zip_set R (a ∷ xs) (b ∷ ys) (suc k) x y new all = (all.0, zip_set R xs ys k x y new all.1)

-- both changed at one place
pub zip_changed : {X Y : Type 0} (R : X → Y → Type 0) (f : X → X) (g : Y → Y) (xs : List X) (ys : List Y) (k : ℕ)
    → ((x : X) (y : Y) → slice_get xs k ≡ Some x → slice_get ys k ≡ Some y → R x y → R (f x) (g y)) → AllZip R xs ys → AllZip R (changed_at f xs k) (changed_at g ys k)
zip_changed {X} {Y} R f g xs ys k new all = go (pair_at R xs ys k all)
  where
    go : ((slice_get xs k ≡ None) × (slice_get ys k ≡ None)) ⊎ IsPair R xs ys k → AllZip R (changed_at f xs k) (changed_at g ys k)
    go (inl none) =
        subst (λ (o : Option X). AllZip R (option_map_or (λ x. set xs k (f x)) o xs) (changed_at g ys k)) (sym none.0)
        (subst (λ (o : Option Y). AllZip R xs (option_map_or (λ y. set ys k (g y)) o ys)) (sym none.1) all)
    go (inr p) =
        subst (λ (o : Option X). AllZip R (option_map_or (λ x. set xs k (f x)) o xs) (changed_at g ys k)) (sym p.in_first)
        (subst (λ (o : Option Y). AllZip R (set xs k (f p.first)) (option_map_or (λ y. set ys k (g y)) o ys)) (sym p.in_second)
        (zip_set R xs ys k (f p.first) (g p.second) (new p.first p.second p.in_first p.in_second p.related) all))
