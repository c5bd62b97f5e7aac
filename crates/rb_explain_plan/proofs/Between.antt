-- The highest number above one and up to another, where numbers rise.
use Rattle.std.proofs.Common.{◌≡◌, ℕ, ◌+◌, ◌/◌, ◌<◌, ◌≤◌, Bool, true, false, cond, ◌&&◌, ◌==◌, ltb, leb, List, [], ◌∷◌, ◌++◌, map, filter, max, length, get_or, take, drop, Option, Some, None, All, ap, sym, refl, subst, ◌∙◌, arith}
use Rattle.std.specs.List.{reduce, fold}
use Rattle.std.specs.Ordering.{is_lt, nat_cmp}
use Rattle.std.specs.declared.cmp.Ordering.TheVariants.{Less, Equal, Greater}
use Rattle.std.specs.List.Sorted.{IsStrictlyIncreasing, IsNonDecreasingBy, IsPartitionPoint}
use Rattle.std.proofs.Math.Nat.{max-eq_right}
use Rattle.std.proofs.lemmas.Bool.{lt-ltb, le-ltb, ltb-true, ltb-false}
use Rattle.std.proofs.lemmas.List.{append-nil, map-append, take-append-drop, take_more, length-map, length-take-le, length-drop, get_or-map, get_or-take, get_or-drop, get_or_default}
use Rattle.std.proofs.lemmas.List.Elements.{All-head, All-tail, All-filter, All-map, filter-append}
use Rattle.std.proofs.lemmas.List.Sorted.{IsNonDecreasingBy-from_all_adjacent}
use Rattle.std.proofs.lemmas.List.Sums.{fold-append}
use Rattle.rb_book.specs.Book.{Book, header_height}
use Rattle.rb_book.specs.Header.{Header}
use Rattle.rb_book.specs.Invariant.{IsBook}
use Rattle.rb_explain_plan.specs.Bisection.{is_between, middle}

-- ---- numbers that rise

non_decreasing : {X : Type 0} (n : X → ℕ) (xs : List X) → IsStrictlyIncreasing (map n xs) → IsNonDecreasingBy n xs
non_decreasing n xs rising = IsNonDecreasingBy-from_all_adjacent n xs (λ k d less.
    let here = get_or-map n xs k d 0 (omega arith) in
    let next = get_or-map n xs (k + 1) d 0 less in
    omega (arith, rising k (omega (arith, length-map xs n))))

pub headers_rise : (b : Book) → IsBook b → IsNonDecreasingBy header_height b.headers
headers_rise b book = non_decreasing header_height b.headers book.headers

-- ---- the greatest of some numbers

fold_at_most : (m a : ℕ) (xs : List ℕ) → a ≤ m → All (λ (x : ℕ). x ≤ m) xs → fold max a xs ≤ m
fold_at_most m a [] le all = le
fold_at_most m a (x ∷ xs) le all = let here = All-head (λ (y : ℕ). y ≤ m) x xs all in fold_at_most m (max a x) xs (omega arith) (All-tail (λ (y : ℕ). y ≤ m) x xs all)

last_greatest : (m : ℕ) (xs : List ℕ) → All (λ (x : ℕ). x ≤ m) xs → reduce max (xs ++ m ∷ []) ≡ Some m
last_greatest m [] all = refl
last_greatest m (x ∷ xs) all =
    let most = fold_at_most m x xs (All-head (λ (y : ℕ). y ≤ m) x xs all) (All-tail (λ (y : ℕ). y ≤ m) x xs all) in
    ap (λ (k : ℕ). Some k) (fold-append max x xs (m ∷ []) ∙ max-eq_right most)

-- ---- numbers that pass no test add nothing

module _ {X : Type 0} (n : X → ℕ) (p : ℕ → Bool) where
  nothing_passes : (xs : List X) → All (λ (x : X). p (n x) ≡ false) xs → filter p (map n xs) ≡ []
  nothing_passes [] none = refl
  nothing_passes (x ∷ xs) none =
      ap (λ b. cond b (n x ∷ filter p (map n xs)) (filter p (map n xs))) (All-head (λ (y : X). p (n y) ≡ false) x xs none) ∙ nothing_passes xs (All-tail (λ (y : X). p (n y) ≡ false) x xs none)

  front_passes : (xs ys : List X) → All (λ (x : X). p (n x) ≡ false) ys → filter p (map n (xs ++ ys)) ≡ filter p (map n xs)
  front_passes xs ys none =
      ap (filter p) (map-append n xs ys) ∙ filter-append p (map n xs) (map n ys) ∙ ap (λ z. filter p (map n xs) ++ z) (nothing_passes ys none) ∙ append-nil (filter p (map n xs))

-- ---- the highest one between

lt_is : (b c : Bool) → is_lt (cond b Less (cond c Equal Greater)) ≡ b
lt_is true c = refl
lt_is false true = refl
lt_is false false = refl

pub over : (a b : ℕ) (r : Bool) → r ≡ is_lt (nat_cmp a b) → r ≡ true → a < b
over a b r r_is here = ltb-true a b (sym (lt_is (ltb a b) (a == b)) ∙ sym r_is ∙ here)

pub not_over : (a b : ℕ) (r : Bool) → r ≡ is_lt (nat_cmp a b) → r ≡ false → b ≤ a
not_over a b r r_is here = ltb-false a b (sym (lt_is (ltb a b) (a == b)) ∙ sym r_is ∙ here)

no_second : (a b : Bool) → b ≡ false → (a && b) ≡ false
no_second true b is = is
no_second false b is = refl

no_first : (a b : Bool) → a ≡ false → (a && b) ≡ false
no_first a b is = ap (λ c. c && b) is

yes_both : (a b : Bool) → a ≡ true → b ≡ true → (a && b) ≡ true
yes_both a b first second = ap (λ c. c && b) first ∙ second

-- the first i numbers are at most half, and the others above it
module _ {X : Type 0} (n : X → ℕ) (trusted half : ℕ) (xs : List X) (i : ℕ)
    (rising : IsNonDecreasingBy n xs) (within : i ≤ length xs) (split : IsPartitionPoint (λ (x : X). leb (n x) half ≡ true) (λ (x : X). leb (n x) half ≡ false) xs i) where
  above : All (λ (x : X). is_between trusted half (n x) ≡ false) (drop i xs)
  above = λ k d lt.
      let long = length-drop i xs in
      let there : get_or (drop i xs) k d ≡ get_or xs (i + k) d = get_or-drop i xs k d in
      subst (λ (x : X). is_between trusted half (n x) ≡ false) (sym there)
      (no_second (ltb trusted (n (get_or xs (i + k) d))) (leb (n (get_or xs (i + k) d)) half) (split.1 (i + k) d (omega arith) (omega arith)))

  front : filter (is_between trusted half) (map n xs) ≡ filter (is_between trusted half) (map n (take i xs))
  front = ap (λ (zs : List X). filter (is_between trusted half) (map n zs)) (sym (take-append-drop i xs)) ∙ front_passes n (is_between trusted half) (take i xs) (drop i xs) above

  pub none_up_to : i ≡ 0 → reduce max (filter (is_between trusted half) (map n xs)) ≡ None
  none_up_to zero_is = ap (λ zs. reduce max zs) (front ∙ ap (λ k. filter (is_between trusted half) (map n (take k xs))) zero_is)

  module _ (j : ℕ) (x : X) (last : j + 1 ≡ i) (there : x ≡ get_or xs j x) where
    last_between : filter (is_between trusted half) (map n xs) ≡ filter (is_between trusted half) (map n (take j xs)) ++ filter (is_between trusted half) (n x ∷ [])
    last_between =
        let cut : take i xs ≡ take j xs ++ x ∷ [] = ap (λ k. take k xs) (sym last) ∙ take_more xs j x (omega arith) ∙ ap (λ z. take j xs ++ z ∷ []) (sym there) in
        front ∙ ap (λ (zs : List X). filter (is_between trusted half) (map n zs)) cut ∙ ap (filter (is_between trusted half)) (map-append n (take j xs) (x ∷ []))
        ∙ filter-append (is_between trusted half) (map n (take j xs)) (n x ∷ [])

    up_to_last : All (λ (y : X). n y ≤ n x) (take j xs)
    up_to_last = λ k d lt.
        let long : length (take j xs) ≡ j = length-take-le j xs (omega arith) in
        let before : get_or (take j xs) k d ≡ get_or xs k d = get_or-take j xs k d (omega arith) in
        let at : get_or xs j d ≡ x = get_or_default xs j d x (omega arith) ∙ sym there in
        subst (λ (y : X). n y ≤ n x) (sym before) (subst (λ (y : X). n (get_or xs k d) ≤ n y) at (rising k j d (omega arith) (omega arith)))

    pub highest_between : trusted < n x → reduce max (filter (is_between trusted half) (map n xs)) ≡ Some (n x)
    highest_between above_it =
        let low : leb (n x) half ≡ true = subst (λ (y : X). leb (n y) half ≡ true) (sym there) (split.0 j x (omega arith) (omega arith)) in
        let passes : is_between trusted half (n x) ≡ true = yes_both (ltb trusted (n x)) (leb (n x) half) (lt-ltb trusted (n x) above_it) low in
        let one : filter (is_between trusted half) (n x ∷ []) ≡ n x ∷ [] = ap (λ b. cond b (n x ∷ []) []) passes in
        ap (λ zs. reduce max zs) (last_between ∙ ap (λ z. filter (is_between trusted half) (map n (take j xs)) ++ z) one)
        ∙ last_greatest (n x) (filter (is_between trusted half) (map n (take j xs)))
        (All-filter (is_between trusted half) (λ (k : ℕ). k ≤ n x) (map n (take j xs)) (All-map (λ (k : ℕ). k ≤ n x) n (take j xs) up_to_last))

    pub none_between : n x ≤ trusted → reduce max (filter (is_between trusted half) (map n xs)) ≡ None
    none_between under =
        let never : (m : ℕ) → m ≤ n x → is_between trusted half m ≡ false = λ m le. no_first (ltb trusted m) (leb m half) (le-ltb trusted m (omega arith)) in
        let none : filter (is_between trusted half) (map n (take j xs)) ≡ [] =
        nothing_passes n (is_between trusted half) (take j xs) (λ k d lt. never (n (get_or (take j xs) k d)) (up_to_last k d lt)) in
        let one : filter (is_between trusted half) (n x ∷ []) ≡ [] = ap (λ b. cond b (n x ∷ []) []) (never (n x) (omega arith)) in
        ap (λ zs. reduce max zs) (last_between ∙ ap (λ z. z ++ filter (is_between trusted half) (n x ∷ [])) none ∙ one)

pub middle_is : (b : Book) (trusted tried half : ℕ) (headers : List Header) (o : Option ℕ) → headers ≡ b.headers → half ≡ (trusted + tried) / 2
    → reduce max (filter (is_between trusted half) (map header_height headers)) ≡ o → o ≡ middle b trusted tried
middle_is b trusted tried half headers o headers_are half_is found =
    sym found ∙ ap (λ (hs : List Header). reduce max (filter (is_between trusted half) (map header_height hs))) headers_are
    ∙ ap (λ k. reduce max (filter (is_between trusted k) (map header_height b.headers))) half_is
