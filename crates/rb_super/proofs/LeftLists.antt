-- What is found in a list, and in what is left of it.
use Rattle.std.proofs.Common.{◌≡◌, ℕ, suc, ◌+◌, ◌-◌, ◌<◌, ◌≤◌, ◌⊎◌, Bool, true, false, cond, List, [], ◌∷◌, ◌++◌, length, map, count_by, Some, inl, inr, refl, sym, ap, ◌∙◌, subst, arith}
use Rattle.std.specs.List.{All, AllByRecursion, Contains, find, insert, slice_get}
use Rattle.std.specs.List.Sorted.{IsStrictlyIncreasing}
use Rattle.std.specs.Option.{IsSomeAnd, option_or}
use Rattle.std.proofs.lemmas.List.{length-append}
use Rattle.std.proofs.lemmas.List.Edits.{insert-append_right}
use Rattle.std.proofs.lemmas.List.Elements.{All-head, All-weaker, All-contains, All-from_recursion, recursion_from_All, Contains-append_cases, Contains-append_right}
use Rattle.std.proofs.lemmas.List.Folds.{find-append}
use Rattle.std.proofs.lemmas.List.Sums.{sum_by-append}
use Rattle.std.proofs.lemmas.Option.{same_Some}
use Rattle.rb_book.specs.Intake.{placed}
use Rattle.rb_book.proofs.Lists.{find-none, found_holds, All-insert}
use Rattle.rb_book.proofs.Rising.{Up, Up-from_increasing, count-step}
use Rattle.rb_super.specs.Left.{IsLeft}

pub find_behind : {X : Type 0} (p : X → Bool) (gone ys : List X) → All (λ x. p x ≡ false) gone → find p (gone ++ ys) ≡ find p ys
find_behind p gone ys none = find-append p gone ys ∙ ap (λ o. option_or o (find p ys)) (find-none p gone none)

-- what no element below passes is found in what is left
pub find_left : {X : Type 0} (number : X → ℕ) (m : ℕ) (xs ys : List X) → IsLeft number m xs ys → (p : X → Bool) → ((x : X) → number x < m → p x ≡ false)
    → find p xs ≡ find p ys
find_left number m xs ys left p none =
    ap (find p) left.parts ∙ find_behind p left.gone ys (All-weaker (λ x. number x < m) (λ x. p x ≡ false) none left.gone left.below)

pub left_in : {X : Type 0} (number : X → ℕ) (m : ℕ) (xs ys : List X) → IsLeft number m xs ys → (x : X) → Contains xs x → (number x < m) ⊎ Contains ys x
left_in number m xs ys left x has = go (Contains-append_cases left.gone ys x (subst (λ zs. Contains zs x) left.parts has))
  where
    go : Contains left.gone x ⊎ Contains ys x → (number x < m) ⊎ Contains ys x
    go (inl gone) = inl (All-contains (λ y. number y < m) left.gone x left.below gone)
    go (inr at) = inr at

pub left_was : {X : Type 0} (number : X → ℕ) (m : ℕ) (xs ys : List X) → IsLeft number m xs ys → (x : X) → Contains ys x → Contains xs x
left_was number m xs ys left x has = subst (λ zs. Contains zs x) (sym left.parts) (Contains-append_right left.gone ys x has)

-- ---- one more element in its place

count_all : {X : Type 0} (p : X → Bool) (gone : List X) → AllByRecursion (λ x. p x ≡ true) gone → count_by p gone ≡ length gone
count_all p [] all = refl
count_all p (x ∷ gone) all = let step = count-step p x gone true all.0 in let rest = count_all p gone all.1 in omega arith

pub count_behind : {X : Type 0} (p : X → Bool) (gone ys : List X) → All (λ x. p x ≡ true) gone → count_by p (gone ++ ys) ≡ length gone + count_by p ys
count_behind p gone ys all =
    sum_by-append (λ x. cond (p x) 1 0) gone ys ∙ ap (λ n. n + count_by p ys) (count_all p gone (recursion_from_All (λ x. p x ≡ true) gone all))

pub placed_behind : {X : Type 0} (p : X → Bool) (x : X) (gone ys : List X) → All (λ y. p y ≡ true) gone → placed p x (gone ++ ys) ≡ gone ++ placed p x ys
placed_behind p x gone ys all =
    let n = count_by p ys in
    let less : (length gone + n) - length gone ≡ n = omega arith in
    ap (λ k. insert (gone ++ ys) k x) (count_behind p gone ys all)
    ∙ insert-append_right gone ys (length gone) (length gone + n) x refl (omega arith)
    ∙ ap (λ k. gone ++ insert ys k x) less

abbrev pub left_placed : {X : Type 0} (number : X → ℕ) (m : ℕ) (xs ys : List X) → IsLeft number m xs ys → (p : X → Bool) (x : X) → ((y : X) → number y < m → p y ≡ true) → m ≤ number x
    → IsLeft number m (placed p x xs) (placed p x ys)
left_placed number m xs ys left p x lower high = record {
  gone = left.gone;
  parts = ap (placed p x) left.parts ∙ placed_behind p x left.gone ys (All-weaker (λ y. number y < m) (λ y. p y ≡ true) lower left.gone left.below);
  below = left.below;
  above = All-insert (λ y. m ≤ number y) ys (count_by p ys) x high left.above;
}

-- the first element stays the first
pub first_placed : {X : Type 0} (p : X → Bool) (x first : X) (ys : List X) → slice_get ys 0 ≡ Some first → p first ≡ true → slice_get (placed p x ys) 0 ≡ Some first
first_placed p x first [] e t = absurd (cc)
first_placed {X} p x first (y ∷ ys) e t =
    let same : y ≡ first = same_Some y first e in
    let step : count_by p (y ∷ ys) ≡ suc (count_by p ys) = (let s = count-step p y ys true (ap p same ∙ t) in omega arith) in
    ap (λ k. slice_get (insert (y ∷ ys) k x) 0) step ∙ e

-- where the list is not empty, the number of elements is less
pub left_fewer : {X : Type 0} (number : X → ℕ) (m : ℕ) (xs ys : List X) → IsLeft number m xs ys → length ys ≤ length xs
left_fewer number m xs ys left = let e = ap length left.parts ∙ length-append left.gone ys in omega arith

-- ---- what rises

each_behind : {X : Type 0} (P : X → Type 0) (gone ys : List X) (k : X) → AllByRecursion P (gone ++ ys) → slice_get ys 0 ≡ Some k → P k
each_behind P [] [] k all e = absurd (cc)
each_behind P [] (y ∷ ys) k all e = subst P (same_Some y k e) all.0
each_behind P (x ∷ gone) ys k all e = each_behind P gone ys k all.1 e

up_front : {X : Type 0} (R : X → X → Type 0) (gone ys : List X) (k : X) → Up R (gone ++ ys) → slice_get ys 0 ≡ Some k → AllByRecursion (λ x. R x k) gone
up_front R [] ys k up e = tt
up_front R (x ∷ gone) ys k up e = (each_behind (R x) gone ys k up.0 e, up_front R gone ys k up.1 e)

pub before_first : {X : Type 0} (f : X → ℕ) (gone ys : List X) (k : X) → IsStrictlyIncreasing (map f (gone ++ ys)) → slice_get ys 0 ≡ Some k → All (λ x. f x < f k) gone
before_first f gone ys k rising e = All-from_recursion (λ x. f x < f k) gone (up_front (λ x y. f x < f y) gone ys k (Up-from_increasing f (gone ++ ys) rising) e)

pub first_of_all : {X : Type 0} (P : X → Type 0) (xs : List X) (x : X) → All P xs → slice_get xs 0 ≡ Some x → P x
first_of_all P [] x all e = absurd (cc)
first_of_all P (y ∷ ys) x all e = subst P (same_Some y x e) (All-head P y ys all)

pub not_empty : {X : Type 0} (xs : List X) (P : X → Type 0) → IsSomeAnd (slice_get xs 0) P → 0 < length xs
not_empty [] P p = absurd p
not_empty (x ∷ xs) P p = omega arith

all_behind : {X : Type 0} (P : X → Type 0) (gone ys : List X) → AllByRecursion P (gone ++ ys) → AllByRecursion P ys
all_behind P [] ys all = all
all_behind P (x ∷ gone) ys all = all_behind P gone ys all.1

-- what went stands before what is found in what is left
each_before : {X : Type 0} (R : X → X → Type 0) (p : X → Bool) (gone ys : List X) (y : X) → Up R (gone ++ ys) → find p ys ≡ Some y → AllByRecursion (λ x. R x y) gone
each_before R p [] ys y up e = tt
each_before R p (x ∷ gone) ys y up e = (found_holds (R x) p ys y (All-from_recursion (R x) ys (all_behind (R x) gone ys up.0)) e, each_before R p gone ys y up.1 e)

pub before_found : {X : Type 0} (f : X → ℕ) (p : X → Bool) (gone ys : List X) (y : X) → IsStrictlyIncreasing (map f (gone ++ ys)) → find p ys ≡ Some y → All (λ x. f x < f y) gone
before_found f p gone ys y rising e = All-from_recursion (λ x. f x < f y) gone (each_before (λ a b. f a < f b) p gone ys y (Up-from_increasing f (gone ++ ys) rising) e)
