-- What is left from heights on that are records' is left of all.
use Rattle.std.proofs.Common.{◌≡◌, ℕ, ◌<◌, ◌≤◌, ◌==◌, ◌⊎◌, Bool, true, false, cond, not, nat_le, List, [], ◌∷◌, ◌++◌, Option, Some, None, inl, inr, refl, sym, ap, ◌∙◌, subst, arith}
use Rattle.std.specs.List.{All, AllByRecursion, AllPairs, filter, find, slice_get}
use Rattle.std.specs.Option.{IfSome, IsSome, IsSomeAnd}
use Rattle.std.specs.Cmp.Lexicographic.{slice_cmp, texts_ties}
use Rattle.std.specs.Ordering.{is_eq, is_lt, nat_cmp}
use Rattle.std.proofs.lemmas.Bool.{eqb-true, le-leb, leb-true, leb-false, not-true, true≢false, false≢true}
use Rattle.std.proofs.lemmas.List.Elements.{All-weaker, filter_passes, recursion_from_All}
use Rattle.std.proofs.lemmas.Option.{none-some}
use Rattle.std.proofs.lemmas.Slice.Eq.{bytes_eq-Decides}
use Rattle.rb_valset.specs.Validator.{Member}
use Rattle.rb_valset.specs.ValidatorSet.{set_hash}
use Rattle.rb_book.specs.Book.{Book, RecordAt, height_of, header_height, is_at, has_hash, is_before, set_of, record_at}
use Rattle.rb_book.specs.Invariant.{IsBook}
use Rattle.rb_book.proofs.Places.{less_from_lt}
use Rattle.rb_book.proofs.Resting.{mapped, next_stays, own_stays}
use Rattle.rb_book.proofs.Rising.{Up, Up-from_increasing, Up-from_pairs, Up-weaker}
use Rattle.rb_super.specs.Left.{IsLeft, IsBookLeft}
use Rattle.rb_book.specs.Rest.{is_from, is_left, rest_of_book}
use Rattle.rb_super.specs.Rest.{IsAtRecord}

-- ---- filters

all_or_none : {X : Type 0} (p : X → Bool) (xs : List X) → AllByRecursion (λ x. p x ≡ false) xs → filter p xs ≡ []
all_or_none p [] all = refl
all_or_none p (x ∷ xs) all = ap (λ b. cond b (x ∷ filter p xs) (filter p xs)) all.0 ∙ all_or_none p xs all.1

all_pass : {X : Type 0} (p : X → Bool) (xs : List X) → AllByRecursion (λ x. p x ≡ true) xs → filter p xs ≡ xs
all_pass p [] all = refl
all_pass p (x ∷ xs) all = ap (λ b. cond b (x ∷ filter p xs) (filter p xs)) all.0 ∙ ap (λ ys. x ∷ ys) (all_pass p xs all.1)

weaker : {X : Type 0} (P Q : X → Type 0) → ((x : X) → P x → Q x) → (xs : List X) → AllByRecursion P xs → AllByRecursion Q xs
weaker P Q f [] all = tt
weaker P Q f (x ∷ xs) all = (f x all.0, weaker P Q f xs all.1)

-- numbers that rise: those below stand in front
pub split_from : {X : Type 0} (f : X → ℕ) (m : ℕ) (xs : List X) → Up (λ x y. f x < f y) xs → xs ≡ filter (λ x. not (nat_le m (f x))) xs ++ filter (λ x. nat_le m (f x)) xs
split_from f m [] up = refl
split_from {X} f m (x ∷ xs) up = go (split_from f m xs up.1) (nat_le m (f x)) refl
  where
    go : xs ≡ filter (λ y. not (nat_le m (f y))) xs ++ filter (λ y. nat_le m (f y)) xs → (b : Bool) → nat_le m (f x) ≡ b
        → x ∷ xs ≡ cond (not b) (x ∷ filter (λ y. not (nat_le m (f y))) xs) (filter (λ y. not (nat_le m (f y))) xs) ++ cond b (x ∷ filter (λ y. nat_le m (f y)) xs) (filter (λ y. nat_le m (f y)) xs)
    go rest false e = ap (λ ys. x ∷ ys) rest
    go rest true e =
        let le = leb-true m (f x) e in
        let none : filter (λ y. not (nat_le m (f y))) xs ≡ [] =
        all_or_none (λ y. not (nat_le m (f y))) xs (weaker (λ y. f x < f y) (λ y. not (nat_le m (f y)) ≡ false) (λ y lt. ap not (le-leb m (f y) (omega arith))) xs up.0) in
        let all : filter (λ y. nat_le m (f y)) xs ≡ xs =
        all_pass (λ y. nat_le m (f y)) xs (weaker (λ y. f x < f y) (λ y. nat_le m (f y) ≡ true) (λ y lt. le-leb m (f y) (omega arith)) xs up.0) in
        λ i. sym none i ++ (x ∷ sym all i)

abbrev pub left_filter : {X : Type 0} (f : X → ℕ) (m : ℕ) (xs : List X) → Up (λ x y. f x < f y) xs → IsLeft f m xs (filter (λ x. nat_le m (f x)) xs)
left_filter f m xs up = record {
  gone = filter (λ x. not (nat_le m (f x))) xs;
  parts = split_from f m xs up;
  below = All-weaker (λ x. not (nat_le m (f x)) ≡ true) (λ x. f x < m) (λ x e. leb-false m (f x) (not-true (nat_le m (f x)) e)) (filter (λ x. not (nat_le m (f x))) xs) (filter_passes (λ x. not (nat_le m (f x))) xs);
  above = All-weaker (λ x. nat_le m (f x) ≡ true) (λ x. m ≤ f x) (λ x e. leb-true m (f x) e) (filter (λ x. nat_le m (f x)) xs) (filter_passes (λ x. nat_le m (f x)) xs);
}

-- the first that is left is the one at the number
first_is : {X : Type 0} (f : X → ℕ) (m : ℕ) (xs : List X) → Up (λ x y. f x < f y) xs → (k : X) → find (λ x. f x == m) xs ≡ Some k → IsSomeAnd (slice_get (filter (λ x. nat_le m (f x)) xs) 0) (λ x. f x ≡ m)
first_is f m [] up k e = absurd (none-some k e)
first_is {X} f m (x ∷ xs) up k e = go (first_is f m xs up.1 k) (f x == m) refl e (nat_le m (f x)) refl
  where
    after : (ys : List X) → AllByRecursion (λ y. f x < f y) ys → find (λ y. f y == m) ys ≡ Some k → f x < m
    after [] all found = absurd (none-some k found)
    after (y ∷ ys) all found = step (f y == m) refl found (after ys all.1)
      where
        step : (b : Bool) → (f y == m) ≡ b → cond b (Some y) (find (λ z. f z == m) ys) ≡ Some k → (find (λ z. f z == m) ys ≡ Some k → f x < m) → f x < m
        step true is found rest = (let at : f y ≡ m = eqb-true (f y) m is in let lt = all.0 in omega arith)
        step false is found rest = rest found

    go : (find (λ y. f y == m) xs ≡ Some k → IsSomeAnd (slice_get (filter (λ y. nat_le m (f y)) xs) 0) (λ y. f y ≡ m)) → (b : Bool) → (f x == m) ≡ b → cond b (Some x) (find (λ y. f y == m) xs) ≡ Some k
        → (c : Bool) → nat_le m (f x) ≡ c → IsSomeAnd (slice_get (cond c (x ∷ filter (λ y. nat_le m (f y)) xs) (filter (λ y. nat_le m (f y)) xs)) 0) (λ y. f y ≡ m)
    go rest true is found true high = eqb-true (f x) m is
    go rest true is found false high = (let at : f x ≡ m = eqb-true (f x) m is in absurd (true≢false (sym (le-leb m (f x) (omega arith)) ∙ high)))
    go rest false is found true high = (let lt = after xs up.0 found in let le = leb-true m (f x) high in absurd (omega arith))
    go rest false is found false high = rest found

-- ---- look-ups in a filter

-- where at most one passes, what is found in the filter is found in all
only_found : {X : Type 0} (p q : X → Bool) (xs : List X) → Up (λ x y. p x ≡ true → p y ≡ true → ⊥) xs → (x : X) → find p (filter q xs) ≡ Some x → find p xs ≡ Some x
only_found p q [] up x e = absurd (none-some x e)
only_found {X} p q (y ∷ ys) up x e = go (only_found p q ys up.1 x) (q y) refl e (p y) refl
  where
    none_later : (zs : List X) → AllByRecursion (λ z. p y ≡ true → p z ≡ true → ⊥) zs → p y ≡ true → find p (filter q zs) ≡ Some x → ⊥
    none_later [] all t f = none-some x f
    none_later (z ∷ zs) all t f = step (none_later zs all.1 t) (q z) f (p z) refl
      where
        step : (find p (filter q zs) ≡ Some x → ⊥) → (c : Bool) → find p (cond c (z ∷ filter q zs) (filter q zs)) ≡ Some x → (b : Bool) → p z ≡ b → ⊥
        step rest c f true g = all.0 t g
        step rest true f false g = rest (sym (ap (λ b. cond b (Some z) (find p (filter q zs))) g) ∙ f)
        step rest false f false g = rest f

    go : (find p (filter q ys) ≡ Some x → find p ys ≡ Some x) → (c : Bool) → q y ≡ c → find p (cond c (y ∷ filter q ys) (filter q ys)) ≡ Some x → (b : Bool) → p y ≡ b → cond b (Some y) (find p ys) ≡ Some x
    go rest true g e true f = sym (ap (λ b. cond b (Some y) (find p (filter q ys))) f) ∙ e
    go rest true g e false f = rest (sym (ap (λ b. cond b (Some y) (find p (filter q ys))) f) ∙ e)
    go rest false g e true f = absurd (none_later ys up.0 f e)
    go rest false g e false f = rest e

-- ---- a light store

some_is : {X : Type 0} (o : Option X) → IsSome o → (x : X) × (o ≡ Some x)
some_is None p = absurd (false≢true p)
some_is (Some x) p = (x, refl)

if_all : {X : Type 0} (P : X → Type 0) (o : Option X) → ((x : X) → o ≡ Some x → P x) → IfSome o P
if_all P None h = tt
if_all P (Some x) h = h x refl

-- a hash doesn't stand before itself
pub not_before : (x y : List Member) (hash : List ℕ) → is_before (set_hash y) x ≡ true → has_hash hash x ≡ true → has_hash hash y ≡ true → ⊥
not_before x y hash before in_x in_y =
    let same : set_hash y ≡ set_hash x = (bytes_eq-Decides (set_hash y) hash).0 in_y ∙ sym ((bytes_eq-Decides (set_hash x) hash).0 in_x) in
    let lt : is_lt (slice_cmp nat_cmp (set_hash x) (set_hash x)) ≡ true = subst (λ h. is_lt (slice_cmp nat_cmp (set_hash x) h) ≡ true) same before in
    true≢false (sym ((bytes_eq-Decides (set_hash x) (set_hash x)).1 refl) ∙ texts_ties (set_hash x) (set_hash x) ∙ ap is_eq (less_from_lt (slice_cmp nat_cmp (set_hash x) (set_hash x)) lt))

apart_hashes : (hash : List ℕ) (sets : List (List Member)) → AllPairs (λ x y. is_before (set_hash y) x ≡ true) sets → Up (λ (x y : List Member). has_hash hash x ≡ true → has_hash hash y ≡ true → ⊥) sets
apart_hashes hash sets apart =
    Up-weaker (λ (x y : List Member). is_before (set_hash y) x ≡ true) (λ (x y : List Member). has_hash hash x ≡ true → has_hash hash y ≡ true → ⊥) (λ x y before. not_before x y hash before) sets
    (Up-from_pairs (λ (x y : List Member). is_before (set_hash y) x ≡ true) sets apart)

module _ (m : ℕ) (b : Book) (book : IsBook b) (at : IsAtRecord m b) where
  rises : Up (λ (x y : RecordAt). height_of x < height_of y) b.records
  rises = Up-from_increasing height_of b.records book.records.heights

  first : (filter (λ (k : RecordAt). not (is_from m k)) b.records ≡ []) ⊎ IsSomeAnd (slice_get (filter (is_from m) b.records) 0) (λ k. height_of k ≡ m)
  first = go at
    where
      go : All (λ k. m ≤ height_of k) b.records ⊎ IsSome (record_at b m) → (filter (λ (k : RecordAt). not (is_from m k)) b.records ≡ []) ⊎ IsSomeAnd (slice_get (filter (is_from m) b.records) 0) (λ k. height_of k ≡ m)
      go (inl all) =
          inl (all_or_none (λ k. not (is_from m k)) b.records
          (weaker (λ k. m ≤ height_of k) (λ k. not (is_from m k) ≡ false) (λ k le. ap not (le-leb m (height_of k) le)) b.records (recursion_from_All (λ k. m ≤ height_of k) b.records all)))
      go (inr known) =
          let r = some_is (record_at b m) known in
          let k = mapped (λ (k : RecordAt). k.record_of) (find (is_at m) b.records) r.0 r.1 in
          inr (first_is height_of m b.records rises k.0 k.1)

  -- two sets have different hashes
  one_hash : (hash : List ℕ) → Up (λ (x y : List Member). has_hash hash x ≡ true → has_hash hash y ≡ true → ⊥) b.sets
  one_hash hash = apart_hashes hash b.sets book.hashes

  pub book_rest : IsBookLeft m b (rest_of_book m b)
  book_rest = record {
    limit = refl;
    records = left_filter height_of m b.records rises;
    headers = left_filter header_height m b.headers (Up-from_increasing header_height b.headers book.headers);
    first = first;
    sets = λ hash. if_all (λ x. set_of b hash ≡ Some x) (set_of (rest_of_book m b) hash) (λ x e. only_found (has_hash hash) (is_left m b.records b.headers) b.sets (one_hash hash) x e);
    next = next_stays m b book;
    own = own_stays m b book;
  }
