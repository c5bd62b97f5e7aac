-- What is left of how things stand, from heights on that nothing needs to be lower, is left of all.
use Rattle.std.proofs.Common.{◌≡◌, ℕ, zero, suc, ◌+◌, ◌-◌, ◌<◌, ◌≤◌, ◌⊎◌, Bool, true, false, cond, not, nat_le, List, [], ◌∷◌, length, map, Option, Some, None, inl, inr, refl, sym, ap, ◌∙◌, subst, arith}
use Rattle.std.specs.List.{All, AllByRecursion, AllZip, filter, slice_get}
use Rattle.std.specs.List.Sorted.{IsStrictlyIncreasing}
use Rattle.std.specs.Option.{IfSome, IsSomeAnd}
use Rattle.std.proofs.lemmas.Bool.{le-leb}
use Rattle.std.proofs.lemmas.List.Elements.{All-filter, recursion_from_All}
use Rattle.std.proofs.lemmas.Option.{none-some, same_Some}
use Rattle.rb_base.specs.Window.{Span}
use Rattle.rb_book.specs.Header.{Record}
use Rattle.rb_book.specs.Book.{Book, record_at}
use Rattle.rb_book.specs.Invariant.{IsBook}
use Rattle.rb_book.proofs.Rising.{Up, Up-from_pairs}
use Rattle.std.proofs.lemmas.List.Kept.{AllPairs-from_increasing}
use Rattle.rb_core_model.specs.Standing.{ClientState, Standing, book_at, window_for}
use Rattle.rb_super.specs.Left.{IsBookLeft, AreStoredLeft}
use Rattle.rb_super.specs.Remains.{IsClientLeft, IsLeftOf}
use Rattle.rb_book.specs.Rest.{rest_of_book}
use Rattle.rb_core_model.specs.Forgetting.{rest_of_books, rest_of_client, rest}
use Rattle.rb_super.specs.Rest.{NeedsNoLower, AreFloors}
use Rattle.rb_book.proofs.Resting.{rest_is_book}
use Rattle.rb_core_model.proofs.Left.{length-rest, book-rest}
use Rattle.rb_super.proofs.Paths.{all_went}
use Rattle.rb_super.proofs.Resting.{left_filter, book_rest}

-- ---- a client

some_left : (p : ℕ → Bool) (xs : List ℕ) (k x : ℕ) → slice_get xs k ≡ Some x → p x ≡ true → 0 < length (filter p xs)
some_left p [] k x e t = absurd (none-some x e)
some_left p (y ∷ ys) zero x e t =
    let same : y ≡ x = same_Some y x e in
    subst (λ b. 0 < length (cond b (y ∷ filter p ys) (filter p ys))) (sym (ap p same ∙ t)) (omega arith)
some_left p (y ∷ ys) (suc k) x e t = go (p y) (some_left p ys k x e t)
  where
    go : (b : Bool) → 0 < length (filter p ys) → 0 < length (cond b (y ∷ filter p ys) (filter p ys))
    go true lt = omega arith
    go false lt = lt

stored_left : (m period : ℕ) (w : Span) (b : Book) (xs : List ℕ) → IsStrictlyIncreasing xs
    → All (λ h. h < m → IsSomeAnd (record_at b h) (λ (r : Record). w.until < r.time + period) → ⊥) xs → IfSome (slice_get xs (length xs - 1)) (λ h. m ≤ h)
    → AreStoredLeft m period w b xs (filter (λ h. nat_le m h) xs)
stored_left m period w b xs rising dead newest = record {
  heights = left_filter (λ h. h) m xs up;
  dead = λ k d lt live.
      All-filter (λ h. not (nat_le m h)) (λ h. h < m → IsSomeAnd (record_at b h) (λ (r : Record). w.until < r.time + period) → ⊥) xs dead k d lt
      ((left_filter (λ h. h) m xs up).below k d lt) live;
  some = some xs newest;
}
  where
    up : Up (λ (x y : ℕ). x < y) xs
    up = Up-from_pairs (λ (x y : ℕ). x < y) xs (AllPairs-from_increasing xs rising)

    some : (ys : List ℕ) → IfSome (slice_get ys (length ys - 1)) (λ h. m ≤ h) → (ys ≡ []) ⊎ (0 < length (filter (λ h. nat_le m h) ys))
    some [] high = inl refl
    some (y ∷ ys) high = go (slice_get (y ∷ ys) (length (y ∷ ys) - 1)) refl high
      where
        go : (o : Option ℕ) → slice_get (y ∷ ys) (length (y ∷ ys) - 1) ≡ o → IfSome o (λ h. m ≤ h) → (y ∷ ys ≡ []) ⊎ (0 < length (filter (λ h. nat_le m h) (y ∷ ys)))
        go (Some h) e le = inr (some_left (λ h. nat_le m h) (y ∷ ys) (length (y ∷ ys) - 1) h e (le-leb m h le))
        go None e le = absurd (there (length (y ∷ ys) - 1) (y ∷ ys) (omega arith) e)
          where
            there : (k : ℕ) (zs : List ℕ) → k < length zs → slice_get zs k ≡ None → ⊥
            there k [] lt none = absurd (omega arith)
            there zero (z ∷ zs) lt none = none-some z (sym none)
            there (suc k) (z ∷ zs) lt none = there k zs (omega arith) none

clients_left : (m : ℕ → ℕ) (w : Span) (books : List Book) (cs : List ClientState) → AllByRecursion (λ (c : ClientState). IsStrictlyIncreasing c.stored) cs
    → AllByRecursion (λ (c : ClientState). NeedsNoLower (m c.config.tracks) w (book_at books c.config.tracks) c) cs → AllZip (IsClientLeft m w books) cs (map (rest_of_client m) cs)
clients_left m w books [] rising needs = tt
clients_left m w books (c ∷ cs) rising needs = (
  record {
    is = refl;
    stored = stored_left (m c.config.tracks) c.config.options.period (window_for w c) (book_at books c.config.tracks) c.stored rising.0 needs.0.dead needs.0.newest;
    batch = needs.0.batch;
  },
  clients_left m w books cs rising.1 needs.1,
)

-- ---- how things stand

pub rest_is_left : (m : ℕ → ℕ) (s : Standing) → AreFloors m s → ((chain : ℕ) → IsBook (book_at s.books chain)) → All (λ (c : ClientState). IsStrictlyIncreasing c.stored) s.clients → IsLeftOf m s (rest m s)
rest_is_left m s are books rising = record {
  window = are.window;
  in_force = are.in_force;
  still = are.in_force;
  paths = all_went s.paths;
  chains = length-rest m 0 s.books;
  books = λ chain. subst (λ (b : Book). IsBookLeft (m chain) (book_at s.books chain) b) (sym (there chain)) (book_rest (m chain) (book_at s.books chain) (books chain) (are.records chain));
  rises = λ chain. (books chain).records;
  rest = λ chain. subst IsBook (sym (there chain)) (rest_is_book (m chain) (book_at s.books chain) (books chain));
  clients =
      clients_left m are.window s.books s.clients (recursion_from_All (λ (c : ClientState). IsStrictlyIncreasing c.stored) s.clients rising)
      (recursion_from_All (λ (c : ClientState). NeedsNoLower (m c.config.tracks) are.window (book_at s.books c.config.tracks) c) s.clients are.clients);
  fit = are.fit;
}
  where
    there : (chain : ℕ) → book_at (rest_of_books m 0 s.books) chain ≡ rest_of_book (m chain) (book_at s.books chain)
    there chain = (let e : 0 + chain ≡ chain = omega arith in book-rest m 0 s.books chain ∙ ap (λ k. rest_of_book (m k) (book_at s.books chain)) e)
