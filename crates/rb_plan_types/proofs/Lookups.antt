-- Look-ups by a key that rises along the list, and those of labels.
use Rattle.std.proofs.Common.{◌≡◌, ℕ, ◌+◌, ◌-◌, ◌<◌, ◌≤◌, ◌⊎◌, ◌==◌, Bool, true, false, IsTrue, ◌↔◌, nat_lt, cond, List, [], ◌∷◌, ◌++◌, length, map, get_or, All, inl, inr, ap, sym, ◌∙◌, refl, subst, arith, Option, Some, None, zero, suc}
use Rattle.std.specs.List.{find, slice_get, Contains, AllPairs, IsAllAdjacentAnswer}
use Rattle.std.specs.List.Sorted.{IsStrictlyIncreasing}
use Rattle.std.specs.Option.{option_map}
use Rattle.std.proofs.lemmas.Option.{get_or_from_slice_get}
use Rattle.std.proofs.lemmas.Bool.{cases_lt, eqb-true, eq-eqb, ne_eqb, cases_Bool, ltb-true, ltb-false, false≢true}
use Rattle.std.proofs.lemmas.List.{length-map, get_or-map}
use Rattle.std.proofs.lemmas.List.Kept.{AllPairs-from_increasing}
use Rattle.rb_plan_types.specs.declared.cost.Cost.{Cost}
use Rattle.rb_plan_types.specs.declared.labelling.Label.{Label}
use Rattle.rb_plan_types.specs.Labelling.{IsLabelling, label_of}
use Rattle.rb_plan_types.proofs.Routes.{Contains-cons_first, Contains-cons_rest}

module _ {X : Type 0} (key : X → ℕ) where
  -- the element that a look-up finds
  pub find-some : (xs : List X) (h : ℕ) (x : X) → find (λ y. key y == h) xs ≡ Some x → Contains xs x × (key x ≡ h)
  find-some [] h x is = absurd cc
  find-some (y ∷ xs) h x is = go (cases_Bool (key y == h)) (find-some xs h x)
    where
      go : ((key y == h) ≡ true) ⊎ ((key y == h) ≡ false) → (find (λ z. key z == h) xs ≡ Some x → Contains xs x × (key x ≡ h)) → Contains (y ∷ xs) x × (key x ≡ h)
      go (inl e) ih =
          let found : Some y ≡ Some x = rw e at is in
          let same : y ≡ x = cc in
          (Contains-cons_first y xs x same, ap key (sym same) ∙ eqb-true _ _ e)
      go (inr e) ih = let p : Contains xs x × (key x ≡ h) = ih (rw e at is) in (Contains-cons_rest y xs x p.0, p.1)

  -- where no element has the key, a look-up finds none
  pub find-none : (xs : List X) (h : ℕ) → ((x : X) → Contains xs x → key x ≡ h → ⊥) → find (λ y. key y == h) xs ≡ None
  find-none [] h none = refl
  find-none (y ∷ xs) h none = rw (ne_eqb (key y) h (none y (Contains-cons_first y xs y refl))) (find-none xs h (λ x there. none x (Contains-cons_rest y xs x there)))

  -- where keys rise, a look-up by the key of an element finds that element
  pub find-at : (xs : List X) (x : X) (h : ℕ) → AllPairs (λ a b. key a < key b) xs → Contains xs x → key x ≡ h → find (λ y. key y == h) xs ≡ Some x
  find-at [] x h rising (k, l, e) same = absurd (omega arith)
  find-at (y ∷ xs) x h rising (zero, l, e) same = rw (eq-eqb (key y) h (ap key e ∙ same)) (ap Some e)
  find-at (y ∷ xs) x h rising (suc k, l, e) same =
      let there : Contains xs x = (k, omega arith, e) in
      let under : key y < key x = subst (λ (z : X). key y < key z) e (rising zero (suc k) x (omega arith) l) in
      rw (ne_eqb (key y) h (λ (q : key y ≡ h). omega arith)) (find-at xs x h (λ i j d lt l'. rising (suc i) (suc j) d (omega arith) (omega arith)) there same)

  -- one element more at the end, of a key that none had
  pub find-push_new : (xs : List X) (x : X) (h : ℕ) → key x ≡ h → ((y : X) → Contains xs y → key y ≡ h → ⊥) → find (λ y. key y == h) (xs ++ x ∷ []) ≡ Some x
  find-push_new [] x h same none = rw (eq-eqb (key x) h same) refl
  find-push_new (y ∷ xs) x h same none = rw (ne_eqb (key y) h (none y (Contains-cons_first y xs y refl))) (find-push_new xs x h same (λ z there. none z (Contains-cons_rest y xs z there)))

  pub find-push_other : (xs : List X) (x : X) (h : ℕ) → (key x ≡ h → ⊥) → find (λ y. key y == h) (xs ++ x ∷ []) ≡ find (λ y. key y == h) xs
  find-push_other [] x h other = rw (ne_eqb (key x) h other) refl
  find-push_other (y ∷ xs) x h other = go (cases_Bool (key y == h)) (find-push_other xs x h other)
    where
      go : ((key y == h) ≡ true) ⊎ ((key y == h) ≡ false) → find (λ z. key z == h) (xs ++ x ∷ []) ≡ find (λ z. key z == h) xs
          → cond (key y == h) (Some y) (find (λ z. key z == h) (xs ++ x ∷ [])) ≡ cond (key y == h) (Some y) (find (λ z. key z == h) xs)
      go (inl e) ih = rw e refl
      go (inr e) ih = rw e ih

  -- rising keys, of each element and the next, or of each two
  pub pairs_from_increasing : (xs : List X) → IsStrictlyIncreasing (map key xs) → AllPairs (λ a b. key a < key b) xs
  pairs_from_increasing xs rising i j d lt l =
      let n : length (map key xs) ≡ length xs = length-map xs key in
      let p : get_or (map key xs) i (key d) < get_or (map key xs) j (key d) = AllPairs-from_increasing (map key xs) rising i j (key d) lt (omega arith) in
      let a : get_or (map key xs) i (key d) ≡ key (get_or xs i d) = get_or-map key xs i d (key d) (omega arith) in
      let b : get_or (map key xs) j (key d) ≡ key (get_or xs j d) = get_or-map key xs j d (key d) l in
      omega arith

  pub increasing_from_pairs : (xs : List X) → AllPairs (λ a b. key a < key b) xs → IsStrictlyIncreasing (map key xs)
  increasing_from_pairs [] pairs k l = absurd (omega arith)
  increasing_from_pairs (x ∷ xs) pairs k l =
      let n : length (map key (x ∷ xs)) ≡ length (x ∷ xs) = length-map (x ∷ xs) key in
      let p : key (get_or (x ∷ xs) k x) < key (get_or (x ∷ xs) (k + 1) x) = pairs k (k + 1) x (omega arith) (omega arith) in
      let a : get_or (map key (x ∷ xs)) k 0 ≡ key (get_or (x ∷ xs) k x) = get_or-map key (x ∷ xs) k x 0 (omega arith) in
      let b : get_or (map key (x ∷ xs)) (k + 1) 0 ≡ key (get_or (x ∷ xs) (k + 1) x) = get_or-map key (x ∷ xs) (k + 1) x 0 (omega arith) in
      omega arith

  -- neighbours rise exactly where all keys do
  pub increasing_from_neighbours : (xs : List X) (r : Bool) → IsAllAdjacentAnswer (λ x y b. b ≡ nat_lt (key x) (key y)) xs r → IsTrue r ↔ IsStrictlyIncreasing (map key xs)
  increasing_from_neighbours [] true h = (λ _ k l. absurd (omega arith), λ _. refl)
  increasing_from_neighbours (x ∷ xs) true h = (λ _ k l. go k l, λ _. refl)
    where
      go : (k : ℕ) → k + 1 < length (map key (x ∷ xs)) → get_or (map key (x ∷ xs)) k 0 < get_or (map key (x ∷ xs)) (k + 1) 0
      go k l =
          let n : length (map key (x ∷ xs)) ≡ length (x ∷ xs) = length-map (x ∷ xs) key in
          let less = ltb-true _ _ (sym (h k x (omega arith))) in
          let a : get_or (map key (x ∷ xs)) k 0 ≡ key (get_or (x ∷ xs) k x) = get_or-map key (x ∷ xs) k x 0 (omega arith) in
          let b : get_or (map key (x ∷ xs)) (k + 1) 0 ≡ key (get_or (x ∷ xs) (k + 1) x) = get_or-map key (x ∷ xs) (k + 1) x 0 (omega arith) in
          omega (arith, less)
  increasing_from_neighbours xs false h = (λ f. absurd (false≢true f), λ up. absurd (go xs h up))
    where
      go : (xs : List X) → (k : ℕ) × (k + 1 < length xs) × ((d : X) → false ≡ nat_lt (key (get_or xs k d)) (key (get_or xs (k + 1) d))) → IsStrictlyIncreasing (map key xs) → ⊥
      go [] (k, l, p) up = omega arith
      go (x ∷ xs) (k, l, p) up =
          let less : key (get_or (x ∷ xs) k x) < key (get_or (x ∷ xs) (k + 1) x) = pairs_from_increasing (x ∷ xs) up k (k + 1) x (omega arith) l in
          let more = ltb-false _ _ (sym (p x)) in
          omega (arith, less, more)

abbrev height_of : Label → ℕ
height_of l = l.height

abbrev pub AreRising : List Label → Type 0
AreRising labels = AllPairs (λ a b. a.height < b.height) labels

pub pairs_of_labelling : (labels : List Label) → IsLabelling labels → AreRising labels
pairs_of_labelling labels is = pairs_from_increasing height_of labels is.rising

-- the label that a look-up finds
pub label_of-some : (labels : List Label) (h : ℕ) (c : Cost) → label_of labels h ≡ Some c → (l : Label) × Contains labels l × (l.height ≡ h) × (l.cost ≡ c)
label_of-some labels h c is = go (find (λ l. l.height == h) labels) refl
  where
    go : (o : Option Label) → find (λ l. l.height == h) labels ≡ o → (l : Label) × Contains labels l × (l.height ≡ h) × (l.cost ≡ c)
    go None e = let found : None ≡ Some c = sym (ap (option_map (λ (l : Label). l.cost)) e) ∙ is in absurd cc
    go (Some l) e =
        let p : Contains labels l × (l.height ≡ h) = find-some height_of labels h l e in
        let found : Some l.cost ≡ Some c = sym (ap (option_map (λ (l : Label). l.cost)) e) ∙ is in
        (l, p.0, p.1, cc)

-- where heights rise, a look-up at the height of a label finds that label
pub label_of-at : (labels : List Label) (l : Label) → AreRising labels → Contains labels l → label_of labels l.height ≡ Some l.cost
label_of-at labels l rising there = ap (option_map (λ (l : Label). l.cost)) (find-at height_of labels l l.height rising there refl)

-- a height above all labels has none
pub label_of-none : (labels : List Label) (h : ℕ) → ((l : Label) → Contains labels l → l.height ≡ h → ⊥) → label_of labels h ≡ None
label_of-none labels h none = ap (option_map (λ (l : Label). l.cost)) (find-none height_of labels h none)

-- one label more at the end
pub label_of-push_new : (labels : List Label) (l : Label) → ((k : Label) → Contains labels k → k.height ≡ l.height → ⊥) → label_of (labels ++ l ∷ []) l.height ≡ Some l.cost
label_of-push_new labels l none = ap (option_map (λ (l : Label). l.cost)) (find-push_new height_of labels l l.height refl none)

pub label_of-push_other : (labels : List Label) (l : Label) (h : ℕ) → (h ≡ l.height → ⊥) → label_of (labels ++ l ∷ []) h ≡ label_of labels h
label_of-push_other labels l h other = ap (option_map (λ (l : Label). l.cost)) (find-push_other height_of labels l h (λ e. other (sym e)))

-- the last label is the highest
pub last_is_highest : (labels : List Label) (top : ℕ) → IsLabelling labels → option_map height_of (slice_get labels (length labels - 1)) ≡ Some top → All (λ l. l.height ≤ top) labels
last_is_highest labels top is e k d l = go (slice_get labels (length labels - 1)) refl
  where
    go : (o : Option Label) → slice_get labels (length labels - 1) ≡ o → (get_or labels k d).height ≤ top
    go None at = let none : None ≡ Some top = sym (ap (option_map height_of) at) ∙ e in absurd cc
    go (Some x) at =
        let here : Some x.height ≡ Some top = sym (ap (option_map height_of) at) ∙ e in
        let same : x.height ≡ top = cc in
        let last : get_or labels (length labels - 1) d ≡ x = get_or_from_slice_get labels (length labels - 1) x d at in
        let high : (get_or labels (length labels - 1) d).height ≡ x.height = ap height_of last in
        elim (cases_lt k (length labels - 1)) [
          | inl lt ↦ (let p : (get_or labels k d).height < (get_or labels (length labels - 1) d).height = pairs_of_labelling labels is k (length labels - 1) d lt (omega arith) in omega arith)
          | inr ge ↦ (let n : k ≡ length labels - 1 = omega arith in let p : (get_or labels k d).height ≡ (get_or labels (length labels - 1) d).height = ap (λ (i : ℕ). (get_or labels i d).height) n in omega arith)
        ]
