-- What of a list has one height, where the list rises and where it was sorted.
use Rattle.std.proofs.Common.{◌≡◌, ◌≢◌, ◌⊎◌, ℕ, zero, suc, ◌+◌, ◌<◌, ◌≤◌, ◌==◌, List, [], ◌∷◌, length, take, drop, map, filter, Bool, true, false, not, ◌&&◌, cond, ltb, leb, inl, inr, refl, sym, ap, ◌∙◌, arith, eq-eqb}
use Rattle.std.specs.Prelude.{Option, Some, None}
use Rattle.std.specs.Option.{option_eq}
use Rattle.std.specs.List.{AllWithin}
use Rattle.std.specs.List.Sorted.{IsPartitionPoint, IsStableByKey, ties}
use Rattle.std.specs.Ordering.{is_lt, nat_cmp}
use Rattle.std.specs.declared.cmp.Ordering.TheVariants.{Less, Equal, Greater}
use Rattle.std.proofs.Math.Seq.{take-nil, drop-nil}
use Rattle.std.proofs.lemmas.Option.{none-some, same_Some}
use Rattle.std.proofs.lemmas.Bool.{true≢false, cases_lt, lt-ltb, le-ltb, ltb-true, ltb-false, leb-true, leb-false, eqb-true, ne_eqb}
use Rattle.std.proofs.lemmas.List.Elements.{filter_agree}

is_less : (a b : ℕ) → a < b → is_lt (nat_cmp a b) ≡ true
is_less a b less = ap (λ o. is_lt (cond o Less (cond (a == b) Equal Greater))) (lt-ltb a b less)

flat : (o : Bool) → is_lt (cond o Equal Greater) ≡ false
flat true = refl
flat false = refl

not_less : (a b : ℕ) → b ≤ a → is_lt (nat_cmp a b) ≡ false
not_less a b more = ap (λ o. is_lt (cond o Less (cond (a == b) Equal Greater))) (le-ltb a b more) ∙ flat (a == b)

-- of two numbers neither is less exactly where they are equal
tie : (a b : ℕ) → not (is_lt (nat_cmp a b)) && not (is_lt (nat_cmp b a)) ≡ (b == a)
tie a b =
    elim (cases_lt a b) [
      | inl less ↦ ap (λ o. not o && not (is_lt (nat_cmp b a))) (is_less a b less) ∙ sym (ne_eqb b a (omega arith))
      | inr more ↦ elim (cases_lt b a) [
        | inl less ↦ ap (λ o. not o && not (is_lt (nat_cmp b a))) (not_less a b more) ∙ ap not (is_less b a less) ∙ sym (ne_eqb b a (omega arith))
        | inr same ↦ ap (λ o. not o && not (is_lt (nat_cmp b a))) (not_less a b more) ∙ ap not (not_less b a same) ∙ sym (eq-eqb b a (omega arith))
      ]
    ]

module _ {X : Type 0} (n : X → ℕ) (t : ℕ) where
  -- it is the first place that isn't below t
  abbrev pub IsStart : List X → ℕ → Type 0
  IsStart xs i = IsPartitionPoint (λ x. ltb (n x) t ≡ true) (λ x. ltb (n x) t ≡ false) xs i

  -- it is the first place above t
  abbrev pub IsEnd : List X → ℕ → Type 0
  IsEnd xs j = IsPartitionPoint (λ x. leb (n x) t ≡ true) (λ x. leb (n x) t ≡ false) xs j

  tail : (P : X → Type 0) (x : X) (xs : List X) (low high from to : ℕ) → AllWithin P (x ∷ xs) low high → low ≤ from + 1 → to + 1 ≤ high → AllWithin P xs from to
  tail P x xs low high from to all down up = λ k d a b. all (suc k) d (omega arith) (omega arith)

  skip : (x : X) (xs : List X) → n x ≢ t → filter (λ y. n y == t) (x ∷ xs) ≡ filter (λ y. n y == t) xs
  skip x xs other = ap (λ b. cond b (x ∷ filter (λ y. n y == t) xs) (filter (λ y. n y == t) xs)) (ne_eqb _ _ other)

  hold : (x : X) (xs : List X) → n x ≡ t → filter (λ y. n y == t) (x ∷ xs) ≡ x ∷ filter (λ y. n y == t) xs
  hold x xs same = ap (λ b. cond b (x ∷ filter (λ y. n y == t) xs) (filter (λ y. n y == t) xs)) (eq-eqb _ _ same)

  -- where none is below t, those of t stand first
  first : (xs : List X) (j : ℕ) → AllWithin (λ x. ltb (n x) t ≡ false) xs 0 (length xs) → IsEnd xs j → take j xs ≡ filter (λ x. n x == t) xs
  first [] j least most = take-nil j
  first (x ∷ xs) zero least most =
      let above = leb-false _ _ (most.1 0 x (omega arith) (omega arith)) in
      let other : n x ≢ t = omega arith in
      first xs zero (tail (λ y. ltb (n y) t ≡ false) x xs _ _ _ _ least (omega arith) (omega arith)) (λ k d a b. absurd (omega arith), tail (λ y. leb (n y) t ≡ false) x xs _ _ _ _ most.1 (omega arith) (omega arith))
      ∙ sym (skip x xs other)
  first (x ∷ xs) (suc j) least most =
      let over = ltb-false _ _ (least 0 x (omega arith) (omega arith)) in
      let under = leb-true _ _ (most.0 0 x (omega arith) (omega arith)) in
      let same : n x ≡ t = omega arith in
      ap (λ l. x ∷ l) (first xs j (tail (λ y. ltb (n y) t ≡ false) x xs _ _ _ _ least (omega arith) (omega arith)) (tail (λ y. leb (n y) t ≡ true) x xs _ _ _ _ most.0 (omega arith) (omega arith), tail (λ y. leb (n y) t ≡ false) x xs _ _ _ _ most.1 (omega arith) (omega arith)))
      ∙ sym (hold x xs same)

  -- those of t stand between the two
  pub between : (xs : List X) (i j : ℕ) → IsStart xs i → IsEnd (drop i xs) j → take j (drop i xs) ≡ filter (λ x. n x == t) xs
  between [] i j start end = ap (take j) (drop-nil i) ∙ take-nil j
  between (x ∷ xs) zero j start end = first (x ∷ xs) j start.1 end
  between (x ∷ xs) (suc i) j start end =
      let below = ltb-true _ _ (start.0 0 x (omega arith) (omega arith)) in
      let other : n x ≢ t = omega arith in
      between xs i j (tail (λ y. ltb (n y) t ≡ true) x xs _ _ _ _ start.0 (omega arith) (omega arith), tail (λ y. ltb (n y) t ≡ false) x xs _ _ _ _ start.1 (omega arith) (omega arith)) end
      ∙ sym (skip x xs other)

  -- ---- what a stable sort leaves

  -- there is one of t, or none
  found : (xs : List X) → ((x : X) × (n x ≡ t)) ⊎ (filter (λ x. n x == t) xs ≡ [])
  found [] = inr refl
  found (x ∷ xs) = at (n x == t) refl (found xs)
    where
      at : (b : Bool) → (n x == t) ≡ b → ((y : X) × (n y ≡ t)) ⊎ (filter (λ y. n y == t) xs ≡ []) → ((y : X) × (n y ≡ t)) ⊎ (filter (λ y. n y == t) (x ∷ xs) ≡ [])
      at true e rest = inl (x, eqb-true _ _ e)
      at false e (inl w) = inl w
      at false e (inr none) = inr (ap (λ b. cond b (x ∷ filter (λ y. n y == t) xs) (filter (λ y. n y == t) xs)) e ∙ none)

  tied : (x y : X) → n x ≡ t → ties (λ a b. is_lt (nat_cmp (n a) (n b))) x y ≡ (n y == t)
  tied x y same = tie (n x) (n y) ∙ ap (λ a. n y == a) same

  stays_of : (xs ys : List X) → IsStableByKey n nat_cmp xs ys → (x : X) → n x ≡ t → filter (λ y. n y == t) ys ≡ filter (λ y. n y == t) xs
  stays_of xs ys stable x same = sym (filter_agree _ _ (λ y. tied x y same) ys) ∙ stable x ∙ filter_agree _ _ (λ y. tied x y same) xs

  -- those of t stay in their order
  pub stays : (xs ys : List X) → IsStableByKey n nat_cmp xs ys → filter (λ x. n x == t) ys ≡ filter (λ x. n x == t) xs
  stays xs ys stable =
      elim (found xs) [
        | inl w ↦ stays_of xs ys stable w.0 w.1
        | inr none ↦ elim (found ys) [ inl w ↦ stays_of xs ys stable w.0 w.1 | inr also ↦ also ∙ sym none ]
      ]

kept_view : {X Y : Type 0} (v : X → Y) (x : X) (b : Bool) (xs : List X) (ys : List Y) → map v xs ≡ ys → map v (cond b (x ∷ xs) xs) ≡ cond b (v x ∷ ys) ys
kept_view v x true xs ys e = ap (λ l. v x ∷ l) e
kept_view v x false xs ys e = e

-- what is seen of the elements that pass a test is what passes it of what is seen of all
pub kept_views : {X Y : Type 0} (p : Y → Bool) (v : X → Y) (xs : List X) → map v (filter (λ x. p (v x)) xs) ≡ filter p (map v xs)
kept_views p v [] = refl
kept_views p v (x ∷ xs) = kept_view v x (p (v x)) (filter (λ y. p (v y)) xs) (filter p (map v xs)) (kept_views p v xs)

-- the last height is this one where the two are equal
pub is_last : (last : Option ℕ) (height : ℕ) → not (option_eq (λ a b. a == b) last (Some height)) ≡ false → last ≡ Some height
is_last None height e = absurd (true≢false e)
is_last (Some h) height e = at (h == height) refl e
  where
    at : (b : Bool) → (h == height) ≡ b → not b ≡ false → Some h ≡ Some height
    at true same e = ap (λ k. Some k) (eqb-true _ _ same)
    at false same e = absurd (true≢false e)

pub is_other : (last : Option ℕ) (height : ℕ) → not (option_eq (λ a b. a == b) last (Some height)) ≡ true → last ≡ Some height → ⊥
is_other None height e same = none-some height same
is_other (Some h) height e same = true≢false (sym e ∙ ap not (eq-eqb h height (same_Some h height same)))
