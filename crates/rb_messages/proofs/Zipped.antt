-- Lists that are made beside others.
use Rattle.std.proofs.Common.{◌≡◌, ℕ, ◌+◌, ◌<◌, ◌≤◌, List, [], ◌∷◌, ◌++◌, append_assoc, drop, length, get_or, map, take, ap, sym, subst, zero-add, ◌∙◌}
use Rattle.std.specs.List.{AllZip, enumerate_from}
use Rattle.std.proofs.lemmas.List.FromFn.{get_or-enumerate_from, length-enumerate_from}
use Rattle.std.proofs.lemmas.List.{drop_more, map_push, take_more, take_all}

zipped_push : {A B : Type 0} (R : A → B → Type 0) (xs : List A) (ys : List B) (x : A) (y : B) → AllZip R xs ys → R x y → AllZip R (xs ++ x ∷ []) (ys ++ y ∷ [])
zipped_push R [] [] x y all r = (r, tt)
zipped_push R [] (b ∷ ys) x y all r = absurd all
zipped_push R (a ∷ xs) [] x y all r = absurd all
zipped_push R (a ∷ xs) (b ∷ ys) x y all r = (all.0, zipped_push R xs ys x y all.1 r)

pub zipped_more : {A B : Type 0} (R : A → B → Type 0) (xs : List A) (i : ℕ) (x : A) (ys : List B) (y : B) → i < length xs → x ≡ get_or xs i x
    → R x y → AllZip R (take i xs) ys → AllZip R (take (i + 1) xs) (ys ++ y ∷ [])
zipped_more R xs i x ys y lt is r all =
    let more : take (i + 1) xs ≡ take i xs ++ x ∷ [] = take_more xs i x lt ∙ ap (λ z. take i xs ++ z ∷ []) (sym is) in
    subst (λ zs. AllZip R zs (ys ++ y ∷ [])) (sym more) (zipped_push R (take i xs) ys x y all r)

pub zipped_all : {A B : Type 0} (R : A → B → Type 0) (xs : List A) (i : ℕ) (ys : List B) → length xs ≤ i → AllZip R (take i xs) ys → AllZip R xs ys
zipped_all R xs i ys le all = subst (λ zs. AllZip R zs ys) (take_all i xs le) all

-- beside a list by places
pub placed_more : {A B : Type 0} (R : ℕ × A → B → Type 0) (xs : List A) (i : ℕ) (x : A) (ys : List B) (y : B) → i < length xs → x ≡ get_or xs i x
    → R (i, x) y → AllZip R (take i (enumerate_from 0 xs)) ys → AllZip R (take (i + 1) (enumerate_from 0 xs)) (ys ++ y ∷ [])
placed_more R xs i x ys y lt is r all =
    let at : get_or (enumerate_from 0 xs) i (i, x) ≡ (i, x) = get_or-enumerate_from 0 xs i (i, x) lt ∙ (λ k. (zero-add i k, sym is k)) in
    zipped_more R (enumerate_from 0 xs) i (i, x) ys y (rw (length-enumerate_from 0 xs) lt) (sym at) r all

pub placed_all : {A B : Type 0} (R : ℕ × A → B → Type 0) (xs : List A) (i : ℕ) (ys : List B)
    → length xs ≤ i → AllZip R (take i (enumerate_from 0 xs)) ys → AllZip R (enumerate_from 0 xs) ys
placed_all R xs i ys le all = zipped_all R (enumerate_from 0 xs) i ys (rw (length-enumerate_from 0 xs) le) all

-- what is made of each element and its place: the next one is made, and the others are left
pub named_next : {A B C : Type 0} (v : C → B) (g : ℕ × A → B) (us : List A) (i : ℕ) (u : A) (made : List C) (one : C) (all : List B)
    → i < length us → u ≡ get_or us i u → v one ≡ g (i, u)
    → map v made ++ map g (enumerate_from i (drop i us)) ≡ all → map v (made ++ one ∷ []) ++ map g (enumerate_from (i + 1) (drop (i + 1) us)) ≡ all
named_next v g us i u made one all lt is name before =
    let left : drop i us ≡ u ∷ drop (i + 1) us = drop_more us i u lt ∙ ap (λ z. z ∷ drop (i + 1) us) (sym is) in
    let here : map v made ++ map g (enumerate_from i (u ∷ drop (i + 1) us)) ≡ all = subst (λ zs. map v made ++ map g (enumerate_from i zs) ≡ all) left before in
    let pushed : map v (made ++ one ∷ []) ≡ map v made ++ g (i, u) ∷ [] = map_push v made one ∙ ap (λ x. map v made ++ x ∷ []) name in
    ap (λ l. l ++ map g (enumerate_from (i + 1) (drop (i + 1) us))) pushed
    ∙ append_assoc (map v made) (g (i, u) ∷ []) (map g (enumerate_from (i + 1) (drop (i + 1) us)))
    ∙ here
