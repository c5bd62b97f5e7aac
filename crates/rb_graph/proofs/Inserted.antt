-- Lists with one more element, and lists that are made of others.
use Rattle.std.proofs.Common.{◌≡◌, ◌≢◌, ℕ, zero, suc, ◌+◌, ◌<◌, ◌≤◌, Bool, true, false, cond, nat_lt, ◌||◌, List, [], ◌∷◌, ◌++◌, Option, Some, None, length, get_or, map, take, drop, refl, sym, ap, ◌∙◌, inl, inr, arith}
use Rattle.std.specs.List.{insert, remove, position, position_or_len, list_any, slice_get, All}
use Rattle.std.specs.Option.{option_map}
use Rattle.rb_graph.specs.Moved.{moved}
use Rattle.std.proofs.lemmas.Bool.{cases_lt, lt-ltb, le-ltb}
use Rattle.std.proofs.lemmas.Option.{slice_get-map, get_or_from_slice_get}

-- ---- one more element

pub map-insert : {X Y : Type 0} (f : X → Y) (xs : List X) (i : ℕ) (x : X) → map f (insert xs i x) ≡ insert (map f xs) i (f x)
map-insert f [] zero x = refl
map-insert f [] (suc i) x = refl
map-insert f (y ∷ ys) zero x = refl
map-insert {X} {Y} f (y ∷ ys) (suc i) x = ap (λ (l : List Y). f y ∷ l) (map-insert f ys i x)

or_swap : (a b c : Bool) → (a || (b || c)) ≡ (b || (a || c))
or_swap true true c = refl
or_swap true false c = refl
or_swap false true c = refl
or_swap false false c = refl

pub any-insert : {X : Type 0} (p : X → Bool) (xs : List X) (i : ℕ) (x : X) → list_any p (insert xs i x) ≡ (p x || list_any p xs)
any-insert p [] zero x = refl
any-insert p [] (suc i) x = refl
any-insert p (y ∷ ys) zero x = refl
any-insert p (y ∷ ys) (suc i) x = ap (λ (b : Bool). p y || b) (any-insert p ys i x) ∙ or_swap (p y) (p x) (list_any p ys)

-- ---- places

pub position-cons : {X : Type 0} (p : X → Bool) (x : X) (xs : List X) → position p (x ∷ xs) ≡ cond (p x) (Some 0) (option_map suc (position p xs))
position-cons {X} p x xs = by (p x) refl
  where
    later : (m n : ℕ) → cond (nat_lt (1 + m) (suc n)) (Some (1 + m)) None ≡ option_map suc (cond (nat_lt m n) (Some m) None)
    later m n = elim (cases_lt m n) [
      | inl lt ↦
          let one : 1 + m ≡ suc m = omega arith in
          ap (λ (b : Bool). cond b (Some (1 + m)) None) (lt-ltb (1 + m) (suc n) (omega arith)) ∙ ap (λ (k : ℕ). Some k) one ∙ sym (ap (λ (b : Bool). option_map suc (cond b (Some m) None)) (lt-ltb m n lt))
      | inr ge ↦ ap (λ (b : Bool). cond b (Some (1 + m)) None) (le-ltb (1 + m) (suc n) (omega arith)) ∙ sym (ap (λ (b : Bool). option_map suc (cond b (Some m) None)) (le-ltb m n ge))
    ]

    first : (n : ℕ) → ◌≡◌ {A = Option ℕ} (cond (nat_lt 0 (suc n)) (Some 0) None) (Some 0)
    first n = ap (λ (b : Bool). cond b (Some 0) None) (lt-ltb 0 (suc n) (omega arith))

    by : (b : Bool) → p x ≡ b → position p (x ∷ xs) ≡ cond b (Some 0) (option_map suc (position p xs))
    by true e = ap (λ (n : ℕ). cond (nat_lt n (suc (length xs))) (Some n) None) (ap (λ (b : Bool). cond (Rattle.std.proofs.Common.not b) (1 + position_or_len p xs) 0) e) ∙ first (length xs)
    by false e = ap (λ (n : ℕ). cond (nat_lt n (suc (length xs))) (Some n) None) (ap (λ (b : Bool). cond (Rattle.std.proofs.Common.not b) (1 + position_or_len p xs) 0) e) ∙ later (position_or_len p xs) (length xs)

pub position-insert_here : {X : Type 0} (p : X → Bool) (xs : List X) (i : ℕ) (x : X) → i ≤ length xs → p x ≡ true → All (λ y. p y ≡ false) xs → position p (insert xs i x) ≡ Some i
position-insert_here p [] zero x le here none = position-cons p x [] ∙ ap (λ (b : Bool). cond b (Some 0) None) here
position-insert_here p [] (suc i) x le here none = absurd (omega arith)
position-insert_here p (y ∷ ys) zero x le here none = position-cons p x (y ∷ ys) ∙ ap (λ (b : Bool). cond b (Some 0) (option_map suc (position p (y ∷ ys)))) here
position-insert_here p (y ∷ ys) (suc i) x le here none =
    position-cons p y (insert ys i x)
    ∙ ap (λ (b : Bool). cond b (Some 0) (option_map suc (position p (insert ys i x)))) (none 0 y (omega arith))
    ∙ ap (option_map suc) (position-insert_here p ys i x (omega arith) here (λ k d lt. none (suc k) d (omega arith)))

moved-suc : (i : ℕ) (o : Option ℕ) → option_map suc (option_map (moved i) o) ≡ option_map (moved (suc i)) (option_map suc o)
moved-suc i None = refl
moved-suc i (Some t) = elim (cases_lt t i) [
  | inl lt ↦ ap (λ (b : Bool). Some (suc (cond b t (t + 1)))) (lt-ltb t i lt) ∙ sym (ap (λ (b : Bool). Some (cond b (suc t) (suc t + 1))) (lt-ltb (suc t) (suc i) (omega arith)))
  | inr ge ↦ (let n : suc (t + 1) ≡ suc t + 1 = omega arith in
      ap (λ (b : Bool). Some (suc (cond b t (t + 1)))) (le-ltb t i ge) ∙ ap (λ (m : ℕ). Some m) n ∙ sym (ap (λ (b : Bool). Some (cond b (suc t) (suc t + 1))) (le-ltb (suc t) (suc i) (omega arith))))
]

moved-first : (i : ℕ) → moved (suc i) 0 ≡ 0
moved-first i = ap (λ (b : Bool). cond b 0 (0 + 1)) (lt-ltb 0 (suc i) (omega arith))

moved-all : (o : Option ℕ) → option_map suc o ≡ option_map (moved 0) o
moved-all None = refl
moved-all (Some t) =
    let n : suc t ≡ t + 1 = omega arith in
    ap (λ (m : ℕ). Some m) n ∙ sym (ap (λ (b : Bool). Some (cond b t (t + 1))) (le-ltb t 0 (omega arith)))

pub position-insert_other : {X : Type 0} (p : X → Bool) (xs : List X) (i : ℕ) (x : X) → i ≤ length xs → p x ≡ false → position p (insert xs i x) ≡ option_map (moved i) (position p xs)
position-insert_other p [] zero x le other = position-cons p x [] ∙ ap (λ (b : Bool). cond b (Some 0) None) other
position-insert_other p [] (suc i) x le other = absurd (omega arith)
position-insert_other p (y ∷ ys) zero x le other =
    position-cons p x (y ∷ ys) ∙ ap (λ (b : Bool). cond b (Some 0) (option_map suc (position p (y ∷ ys)))) other ∙ moved-all (position p (y ∷ ys))
position-insert_other {X} p (y ∷ ys) (suc i) x le other =
    position-cons p y (insert ys i x) ∙ by (position-insert_other p ys i x (omega arith) other) (p y) ∙ ap (option_map (moved (suc i))) (sym (position-cons p y ys))
  where
    by : position p (insert ys i x) ≡ option_map (moved i) (position p ys) → (b : Bool) → cond b (Some 0) (option_map suc (position p (insert ys i x))) ≡ option_map (moved (suc i)) (cond b (Some 0) (option_map suc (position p ys)))
    by rest true = ap (λ (m : ℕ). Some m) (sym (moved-first i))
    by rest false = ap (option_map suc) rest ∙ moved-suc i (position p ys)

-- ---- lists that are made of others

pub map-same : {X Y : Type 0} (f g : X → Y) (xs : List X) → All (λ x. f x ≡ g x) xs → map f xs ≡ map g xs
map-same f g [] same = refl
map-same f g (x ∷ xs) same = λ j. same 0 x (omega arith) j ∷ map-same f g xs (λ k d lt. same (suc k) d (omega arith)) j

-- the value at a place of a list that is made of another
pub made_at : {X Y : Type 0} (f : X → Y) (xs : List X) (ys : List Y) (i : ℕ) (x : X) (d : Y) → ys ≡ map f xs → slice_get xs i ≡ Some x → get_or ys i d ≡ f x
made_at f xs ys i x d e is =
    get_or_from_slice_get ys i (f x) d (ap (λ (zs : List _). slice_get zs i) e ∙ slice_get-map f xs i ∙ ap (option_map f) is)

-- one element changes
pub map-set : {X Y : Type 0} (f g : X → Y) (xs : List X) (i : ℕ) (x : X) (y : Y) → i < length xs → y ≡ g (get_or xs i x) → ((k : ℕ) (d : X) → k < length xs → k ≢ i → f (get_or xs k d) ≡ g (get_or xs k d))
    → Rattle.std.proofs.Common.set (map f xs) i y ≡ map g xs
map-set f g [] i x y lt here same = absurd (omega arith)
map-set f g (z ∷ zs) zero x y lt here same = λ j. here j ∷ map-same f g zs (λ k d less. same (suc k) d (omega arith) (λ e. absurd (omega (arith, e)))) j
map-set f g (z ∷ zs) (suc i) x y lt here same =
    λ j. same 0 z (omega arith) (λ e. absurd (omega (arith, e))) j ∷ map-set f g zs i x y (omega arith) here (λ k d less other. same (suc k) d (omega arith) (λ e. other (omega (arith, e)))) j

-- a walk that writes g x where f x stood
pub written : {X Y : Type 0} (f g : X → Y) (xs : List X) (i : ℕ) → List Y
written f g xs i = map g (take i xs) ++ drop i (map f xs)

pub written-none : {X Y : Type 0} (f g : X → Y) (xs : List X) → written f g xs 0 ≡ map f xs
unfolding written
written-none f g xs = refl

pub written-is : {X Y : Type 0} (f g : X → Y) (xs : List X) (i : ℕ) → map g (take i xs) ++ drop i (map f xs) ≡ written f g xs i
unfolding written
written-is f g xs i = refl

pub length-written : {X Y : Type 0} (f g : X → Y) (xs : List X) (i : ℕ) → length (written f g xs i) ≡ length xs
unfolding written
length-written f g [] zero = refl
length-written f g [] (suc i) = refl
length-written f g (x ∷ xs) zero = ap suc (length-written f g xs 0)
length-written f g (x ∷ xs) (suc i) = ap suc (length-written f g xs i)

pub written-here : {X Y : Type 0} (f g : X → Y) (xs : List X) (i : ℕ) (x : X) (d : Y) → i < length xs → get_or (written f g xs i) i d ≡ f (get_or xs i x)
unfolding written
written-here f g [] i x d lt = absurd (omega arith)
written-here f g (z ∷ zs) zero x d lt = refl
written-here f g (z ∷ zs) (suc i) x d lt = written-here f g zs i x d (omega arith)

pub written-step : {X Y : Type 0} (f g : X → Y) (xs : List X) (i : ℕ) (x : X) → i < length xs → Rattle.std.proofs.Common.set (written f g xs i) i (g (get_or xs i x)) ≡ written f g xs (i + 1)
unfolding written
written-step f g [] i x lt = absurd (omega arith)
written-step f g (z ∷ zs) zero x lt = refl
written-step {X} {Y} f g (z ∷ zs) (suc i) x lt =
    let n : suc i + 1 ≡ suc (i + 1) = omega arith in
    rw n (ap (λ (l : List Y). g z ∷ l) (written-step f g zs i x (omega arith)))

pub written-all : {X Y : Type 0} (f g : X → Y) (xs : List X) (i : ℕ) → length xs ≤ i → written f g xs i ≡ map g xs
unfolding written
written-all f g [] zero le = refl
written-all f g [] (suc i) le = refl
written-all f g (x ∷ xs) zero le = absurd (omega arith)
written-all {X} {Y} f g (x ∷ xs) (suc i) le = ap (λ (l : List Y). g x ∷ l) (written-all f g xs i (omega arith))

-- a walk that puts f x back where the first n hold g x
pub undone : {X Y : Type 0} (f g : X → Y) (xs : List X) (n i : ℕ) → List Y
undone f g xs n i = map f (take i xs) ++ drop i (written f g xs n)

pub undone-none : {X Y : Type 0} (f g : X → Y) (xs : List X) (n : ℕ) → undone f g xs n 0 ≡ written f g xs n
unfolding undone
undone-none f g xs n = refl

pub undone-here : {X Y : Type 0} (f g : X → Y) (xs : List X) (n i : ℕ) (x : X) (d : Y) → i < length xs → i < n → get_or (undone f g xs n i) i d ≡ g (get_or xs i x)
unfolding undone written
undone-here f g [] n i x d lt before = absurd (omega arith)
undone-here f g (z ∷ zs) zero i x d lt before = absurd (omega arith)
undone-here f g (z ∷ zs) (suc n) zero x d lt before = refl
undone-here f g (z ∷ zs) (suc n) (suc i) x d lt before = undone-here f g zs n i x d (omega arith) (omega arith)

pub undone-step : {X Y : Type 0} (f g : X → Y) (xs : List X) (n i : ℕ) (x : X) → i < length xs → Rattle.std.proofs.Common.set (undone f g xs n i) i (f (get_or xs i x)) ≡ undone f g xs n (i + 1)
unfolding undone written
undone-step f g [] n i x lt = absurd (omega arith)
undone-step f g (z ∷ zs) zero zero x lt = refl
undone-step f g (z ∷ zs) (suc n) zero x lt = refl
undone-step {X} {Y} f g (z ∷ zs) zero (suc i) x lt =
    let n : suc i + 1 ≡ suc (i + 1) = omega arith in
    rw n (ap (λ (l : List Y). f z ∷ l) (undone-step f g zs zero i x (omega arith)))
undone-step {X} {Y} f g (z ∷ zs) (suc m) (suc i) x lt =
    let n : suc i + 1 ≡ suc (i + 1) = omega arith in
    rw n (ap (λ (l : List Y). f z ∷ l) (undone-step f g zs m i x (omega arith)))

pub undone-all : {X Y : Type 0} (f g : X → Y) (xs : List X) (n i : ℕ) → n ≤ i → undone f g xs n i ≡ map f xs
unfolding undone written
undone-all f g [] zero zero le = refl
undone-all f g [] zero (suc i) le = refl
undone-all f g [] (suc n) zero le = absurd (omega arith)
undone-all f g [] (suc n) (suc i) le = refl
undone-all f g (x ∷ xs) zero zero le = refl
undone-all f g (x ∷ xs) (suc n) zero le = absurd (omega arith)
undone-all {X} {Y} f g (x ∷ xs) zero (suc i) le = ap (λ (l : List Y). f x ∷ l) (undone-all f g xs zero i (omega arith))
undone-all {X} {Y} f g (x ∷ xs) (suc n) (suc i) le = ap (λ (l : List Y). f x ∷ l) (undone-all f g xs n i (omega arith))

-- what was put in is taken out again
pub removed-insert : {X : Type 0} (xs : List X) (i : ℕ) (x : X) → i ≤ length xs → remove (insert xs i x) i ≡ xs
removed-insert [] zero x le = refl
removed-insert [] (suc i) x le = absurd (omega arith)
removed-insert (y ∷ ys) zero x le = refl
removed-insert {X} (y ∷ ys) (suc i) x le = ap (λ (l : List X). y ∷ l) (removed-insert ys i x (omega arith))

-- ---- a list that is written over another of its length

take_own : {X : Type 0} (xs ys : List X) → take (length xs) (xs ++ ys) ≡ xs
take_own [] ys = refl
take_own {X} (x ∷ xs) ys = ap (λ (l : List X). x ∷ l) (take_own xs ys)

pub written_over : {X : Type 0} (new old : List X) (n : ℕ) → length new ≡ n → take n (new ++ drop (length new) old) ≡ new
written_over new old n e = ap (λ k. take k (new ++ drop (length new) old)) (sym e) ∙ take_own new (drop (length new) old)
