-- What is left of what is left is left of all.
use Rattle.std.proofs.Common.{◌≡◌, ℕ, ◌+◌, ◌<◌, ◌≤◌, ◌⊎◌, max, true, false, List, [], ◌∷◌, ◌++◌, length, Option, Some, None, inl, inr, refl, sym, ap, ◌∙◌, subst, arith}
use Rattle.std.specs.List.{All, AllByRecursion, AllZip, slice_get, slice_index_or}
use Rattle.std.specs.Option.{IfSome, IsSomeAnd}
use Rattle.std.proofs.lemmas.List.{append_assoc}
use Rattle.std.proofs.lemmas.List.Elements.{All-append, All-from_recursion, All-weaker, recursion_from_All}
use Rattle.std.proofs.lemmas.Option.{same_Some}
use Rattle.rb_base.specs.Window.{Span}
use Rattle.rb_valset.specs.Validator.{Member}
use Rattle.rb_book.specs.Header.{Record, Header}
use Rattle.rb_book.specs.Book.{Book, RecordAt, height_of, time_of, header_height, set_of, record_at}
use Rattle.rb_scan.specs.Packet.{Packet, is_cleared, is_in_flight}
use Rattle.rb_scan.specs.declared.path.Order.{Order}
use Rattle.rb_scan.specs.declared.path.Order.TheVariants.{Unordered}
use Rattle.rb_step.specs.LightClient.{Update}
use Rattle.rb_core_model.specs.Over.{from_later}
use Rattle.rb_core_model.specs.Standing.{OpenBatch, ClientState, PathState, Standing, book_at, window_for}
use Rattle.rb_super.specs.Left.{IsLeft, IsBookLeft, AreStoredLeft}
use Rattle.rb_super.specs.Forgetting.{greatest}
use Rattle.rb_super.specs.Remains.{IsAfterGone, PacketFits, PathFits, IsClientLeft, IsPathLeft, IsLeftOf}
use Rattle.rb_super.proofs.Books.{record_here}
use Rattle.rb_super.proofs.LeftLists.{first_of_all}
use Rattle.rb_super.proofs.Paths.{all_fit_behind, paths_again}

most : (a b c : ℕ) → a ≤ c → b ≤ c → max a b ≤ c
most a b c p q = omega arith

behind : {X : Type 0} (P : X → Type 0) (gone ys : List X) → AllByRecursion P (gone ++ ys) → AllByRecursion P ys
behind P [] ys all = all
behind P (x ∷ gone) ys all = behind P gone ys all.1

front : {X : Type 0} (P : X → Type 0) (gone ys : List X) → AllByRecursion P (gone ++ ys) → AllByRecursion P gone
front P [] ys all = tt
front P (x ∷ gone) ys all = (all.0, front P gone ys all.1)

-- what holds of all holds of what is left, and of what went
of_left : {X : Type 0} (f : X → ℕ) (m : ℕ) (xs ys : List X) → IsLeft f m xs ys → (P : X → Type 0) → All P xs → All P ys
of_left {X} f m xs ys left P all =
    All-from_recursion P ys (behind P left.gone ys (subst (AllByRecursion P) left.parts (recursion_from_All P xs all)))

of_gone : {X : Type 0} (f : X → ℕ) (m : ℕ) (xs ys : List X) (left : IsLeft f m xs ys) → (P : X → Type 0) → All P xs → All P left.gone
of_gone {X} f m xs ys left P all =
    All-from_recursion P left.gone (front P left.gone ys (subst (AllByRecursion P) left.parts (recursion_from_All P xs all)))

both : {X : Type 0} (P Q R : X → Type 0) → ((x : X) → P x → Q x → R x) → (xs : List X) → All P xs → All Q xs → All R xs
both P Q R f xs a b = λ k d lt. f (slice_index_or xs k d) (a k d lt) (b k d lt)

abbrev left_again : {X : Type 0} (f : X → ℕ) (m n : ℕ) (xs ys zs : List X) → IsLeft f m xs ys → IsLeft f n ys zs → IsLeft f (max m n) xs zs
left_again f m n xs ys zs one two = record {
  gone = one.gone ++ two.gone;
  parts = one.parts ∙ ap (λ rest. one.gone ++ rest) two.parts ∙ sym (append_assoc one.gone two.gone zs);
  below =
      All-append (λ x. f x < max m n) one.gone two.gone (All-weaker (λ x. f x < m) (λ x. f x < max m n) (λ x lt. omega arith) one.gone one.below)
      (All-weaker (λ x. f x < n) (λ x. f x < max m n) (λ x lt. omega arith) two.gone two.below);
  above = both (λ x. m ≤ f x) (λ x. n ≤ f x) (λ x. max m n ≤ f x) (λ x p q. most m n (f x) p q) zs (of_left f n ys zs two (λ x. m ≤ f x) one.above) two.above;
}

-- ---- a light store

module _ (m n : ℕ) (b c d : Book) (one : IsBookLeft m b c) (two : IsBookLeft n c d) where
  records_again : IsLeft height_of (max m n) b.records d.records
  records_again = left_again height_of m n b.records c.records d.records one.records two.records

  first_again : (one.records.gone ++ two.records.gone ≡ []) ⊎ IsSomeAnd (slice_get d.records 0) (λ (k : RecordAt). height_of k ≡ max m n)
  first_again = go one.first two.first
    where
      at_first : (P : RecordAt → Type 0) → All P d.records → (k : RecordAt) → slice_get d.records 0 ≡ Some k → P k
      at_first P all k e = first_of_all P d.records k all e

      by_second : (o : Option RecordAt) → slice_get d.records 0 ≡ o → IsSomeAnd o (λ (k : RecordAt). height_of k ≡ n) → IsSomeAnd o (λ (k : RecordAt). height_of k ≡ max m n)
      by_second None e at = absurd at
      by_second (Some k) e at =
          let le : m ≤ height_of k = at_first (λ x. m ≤ height_of x) (of_left height_of n c.records d.records two.records (λ x. m ≤ height_of x) one.records.above) k e in
          let is : n ≡ max m n = omega arith in
          at ∙ is

      by_first : (o : Option RecordAt) → slice_get d.records 0 ≡ o → IsSomeAnd o (λ (k : RecordAt). height_of k ≡ m) → IsSomeAnd o (λ (k : RecordAt). height_of k ≡ max m n)
      by_first None e at = absurd at
      by_first (Some k) e at =
          let le : n ≤ height_of k = at_first (λ x. n ≤ height_of x) two.records.above k e in
          let is : m ≡ max m n = omega arith in
          at ∙ is

      go : (one.records.gone ≡ []) ⊎ IsSomeAnd (slice_get c.records 0) (λ (k : RecordAt). height_of k ≡ m) → (two.records.gone ≡ []) ⊎ IsSomeAnd (slice_get d.records 0) (λ (k : RecordAt). height_of k ≡ n)
          → (one.records.gone ++ two.records.gone ≡ []) ⊎ IsSomeAnd (slice_get d.records 0) (λ (k : RecordAt). height_of k ≡ max m n)
      go first (inr second) = inr (by_second (slice_get d.records 0) refl second)
      go (inl none) (inl nothing) = inl (ap (λ (xs : List RecordAt). xs ++ two.records.gone) none ∙ nothing)
      go (inr first) (inl nothing) =
          let same : c.records ≡ d.records = two.records.parts ∙ ap (λ (xs : List RecordAt). xs ++ d.records) nothing in
          inr (by_first (slice_get d.records 0) refl (subst (λ (xs : List RecordAt). IsSomeAnd (slice_get xs 0) (λ (k : RecordAt). height_of k ≡ m)) same first))

  pub book_again : IsBookLeft (max m n) b d
  book_again = record {
    limit = two.limit ∙ one.limit;
    records = left_again height_of m n b.records c.records d.records one.records two.records;
    headers = left_again header_height m n b.headers c.headers d.headers one.headers two.headers;
    first = first_again;
    sets = λ hash. sets_again hash (set_of d hash) refl (two.sets hash);
    next =
        both (λ (k : RecordAt). set_of b k.record_of.next ≡ set_of c k.record_of.next) (λ (k : RecordAt). set_of c k.record_of.next ≡ set_of d k.record_of.next) (λ (k : RecordAt). set_of b k.record_of.next ≡ set_of d k.record_of.next)
        (λ k p q. p ∙ q) d.records (of_left height_of n c.records d.records two.records (λ (k : RecordAt). set_of b k.record_of.next ≡ set_of c k.record_of.next) one.next) two.next;
    own =
        both (λ (h : Header). set_of b h.set_hash ≡ set_of c h.set_hash) (λ (h : Header). set_of c h.set_hash ≡ set_of d h.set_hash) (λ (h : Header). set_of b h.set_hash ≡ set_of d h.set_hash)
        (λ h p q. p ∙ q) d.headers (of_left header_height n c.headers d.headers two.headers (λ (h : Header). set_of b h.set_hash ≡ set_of c h.set_hash) one.own) two.own;
  }
    where
      sets_again : (hash : List ℕ) (o : Option (List Member)) → set_of d hash ≡ o → IfSome o (λ x. set_of c hash ≡ Some x) → IfSome o (λ x. set_of b hash ≡ Some x)
      sets_again hash None e p = tt
      sets_again hash (Some x) e p = subst (λ (q : Option (List Member)). IfSome q (λ y. set_of b hash ≡ Some y)) p (one.sets hash)

  -- ---- stored heights

  pub stored_again : (period : ℕ) (w : Span) (xs ys zs : List ℕ) → AreStoredLeft m period w b xs ys → AreStoredLeft n period w c ys zs → AreStoredLeft (max m n) period w b xs zs
  stored_again period w xs ys zs p q = record {
    heights = left_again (λ h. h) m n xs ys zs p.heights q.heights;
    dead =
        All-append (λ h. IsSomeAnd (record_at b h) (λ (r : Record). w.until < r.time + period) → ⊥) p.heights.gone q.heights.gone p.dead
        (both (λ h. m ≤ h) (λ h. IsSomeAnd (record_at c h) (λ (r : Record). w.until < r.time + period) → ⊥) (λ h. IsSomeAnd (record_at b h) (λ (r : Record). w.until < r.time + period) → ⊥)
        (λ h le dead live. dead (subst (λ (o : Option Record). IsSomeAnd o (λ (r : Record). w.until < r.time + period)) (record_here m b c one h le) live))
        q.heights.gone (of_gone (λ h. h) n ys zs q.heights (λ h. m ≤ h) p.heights.above) q.dead);
    some = go p.some q.some;
  }
    where
      go : (xs ≡ []) ⊎ (0 < length ys) → (ys ≡ []) ⊎ (0 < length zs) → (xs ≡ []) ⊎ (0 < length zs)
      go (inl none) second = inl none
      go (inr some) (inr more) = inr more
      go (inr some) (inl none) = (let e = ap length none in absurd (omega arith))

  -- ---- packets

  gone_again : (limit : ℕ) → IsAfterGone m b limit → IsAfterGone n c limit → IsAfterGone (max m n) b limit
  gone_again limit early later =
      subst (λ (xs : List RecordAt). All (λ (k : RecordAt). height_of k < max m n → time_of k < limit) xs) (sym one.records.parts)
      (All-append (λ (k : RecordAt). height_of k < max m n → time_of k < limit) one.records.gone c.records
      (both (λ (k : RecordAt). height_of k < m) (λ (k : RecordAt). height_of k < m → time_of k < limit) (λ (k : RecordAt). height_of k < max m n → time_of k < limit)
      (λ k lt late any. late lt) one.records.gone one.records.below (of_gone height_of m b.records c.records one.records (λ (k : RecordAt). height_of k < m → time_of k < limit) early))
      (both (λ (k : RecordAt). m ≤ height_of k) (λ (k : RecordAt). height_of k < n → time_of k < limit) (λ (k : RecordAt). height_of k < max m n → time_of k < limit)
      (λ k le late lt. late (omega arith)) c.records one.records.above later))

  if_both : (o : Option ℕ) → IfSome o (IsAfterGone m b) → IfSome o (IsAfterGone n c) → IfSome o (IsAfterGone (max m n) b)
  if_both None p q = tt
  if_both (Some limit) p q = gone_again limit p q

  at_most : (o : Option ℕ) (f : ℕ → ℕ) → IfSome o (λ x. m ≤ f x) → IfSome o (λ x. n ≤ f x) → IfSome o (λ x. max m n ≤ f x)
  at_most None f p q = tt
  at_most (Some x) f p q = most m n (f x) p q

  pub packet_again : (i j : ℕ) (order : Order) (q : Packet) → PacketFits i m b order q → PacketFits j n c order q → PacketFits (max i j) (max m n) b order q
  packet_again i j order q p r = record { times_out = times p.times_out r.times_out; receive = receives p.receive r.receive; timeout = heights p.timeout r.timeout; written = writes p.written r.written }
    where
      times : (is_in_flight q ≡ false) ⊎ IfSome q.timeout_time (IsAfterGone m b) → (is_in_flight q ≡ false) ⊎ IfSome q.timeout_time (IsAfterGone n c) → (is_in_flight q ≡ false) ⊎ IfSome q.timeout_time (IsAfterGone (max m n) b)
      times (inl landed) other = inl landed
      times (inr late) (inl landed) = inl landed
      times (inr late) (inr later) = inr (if_both q.timeout_time late later)

      receives : (order ≡ Unordered) ⊎ ((is_in_flight q ≡ false) ⊎ (i ≤ q.sent + 1)) → (order ≡ Unordered) ⊎ ((is_in_flight q ≡ false) ⊎ (j ≤ q.sent + 1)) → (order ≡ Unordered) ⊎ ((is_in_flight q ≡ false) ⊎ (max i j ≤ q.sent + 1))
      receives (inl any) other = inl any
      receives (inr x) (inl any) = inl any
      receives (inr (inl landed)) (inr y) = inr (inl landed)
      receives (inr (inr le)) (inr (inl landed)) = inr (inl landed)
      receives (inr (inr le)) (inr (inr less)) = inr (inr (most i j (q.sent + 1) le less))

      heights : (order ≡ Unordered) ⊎ ((is_in_flight q ≡ false) ⊎ IfSome q.timeout_height (λ h. m ≤ h)) → (order ≡ Unordered) ⊎ ((is_in_flight q ≡ false) ⊎ IfSome q.timeout_height (λ h. n ≤ h))
          → (order ≡ Unordered) ⊎ ((is_in_flight q ≡ false) ⊎ IfSome q.timeout_height (λ h. max m n ≤ h))
      heights (inl any) other = inl any
      heights (inr x) (inl any) = inl any
      heights (inr (inl landed)) (inr y) = inr (inl landed)
      heights (inr (inr le)) (inr (inl landed)) = inr (inl landed)
      heights (inr (inr le)) (inr (inr less)) = inr (inr (at_most q.timeout_height (λ h. h) le less))

      writes : (order ≡ Unordered) ⊎ ((is_cleared q ≡ true) ⊎ IfSome q.written (λ block. m ≤ block + 1)) → (order ≡ Unordered) ⊎ ((is_cleared q ≡ true) ⊎ IfSome q.written (λ block. n ≤ block + 1))
          → (order ≡ Unordered) ⊎ ((is_cleared q ≡ true) ⊎ IfSome q.written (λ block. max m n ≤ block + 1))
      writes (inl any) other = inl any
      writes (inr x) (inl any) = inl any
      writes (inr (inl cleared)) (inr y) = inr (inl cleared)
      writes (inr (inr le)) (inr (inl cleared)) = inr (inl cleared)
      writes (inr (inr le)) (inr (inr less)) = inr (inr (at_most q.written (λ block. block + 1) le less))

-- ---- how things stand

module _ (m n : ℕ → ℕ) (s t u : Standing) (one : IsLeftOf m s t) (two : IsLeftOf n t u) where
  same_window : two.window ≡ one.window
  same_window = same_Some two.window one.window (sym two.in_force ∙ one.still)

  updates_above : (i j : ℕ) (o : Option OpenBatch) → IfSome o (λ (b : OpenBatch). All (λ (x : Update). i ≤ x.height) b.updates) → IfSome o (λ (b : OpenBatch). All (λ (x : Update). j ≤ x.height) b.updates)
      → IfSome o (λ (b : OpenBatch). All (λ (x : Update). max i j ≤ x.height) b.updates)
  updates_above i j None p q = tt
  updates_above i j (Some b) p q = both (λ (x : Update). i ≤ x.height) (λ (x : Update). j ≤ x.height) (λ (x : Update). max i j ≤ x.height) (λ x a c. most i j x.height a c) b.updates p q

  client_again : (c d e : ClientState) → IsClientLeft m one.window s.books c d → IsClientLeft n one.window t.books d e → IsClientLeft (greatest m n) one.window s.books c e
  client_again c d e p q = over d.stored (subst (λ (x : ClientState). IsClientLeft n one.window t.books x e) p.is q) p.stored
    where
      over : (ys : List ℕ) → IsClientLeft n one.window t.books (record c { stored = ys }) e
          → AreStoredLeft (m c.config.tracks) c.config.options.period (window_for one.window c) (book_at s.books c.config.tracks) c.stored ys → IsClientLeft (greatest m n) one.window s.books c e
      over ys r stored = record {
        is = r.is;
        stored =
            stored_again (m c.config.tracks) (n c.config.tracks) (book_at s.books c.config.tracks) (book_at t.books c.config.tracks) (book_at u.books c.config.tracks) (one.books c.config.tracks) (two.books c.config.tracks)
            c.config.options.period (window_for one.window c) c.stored ys e.stored stored r.stored;
        batch = updates_above (m c.config.tracks) (n c.config.tracks) c.batch p.batch r.batch;
      }

  clients_again : (cs ds es : List ClientState) → AllZip (IsClientLeft m one.window s.books) cs ds → AllZip (IsClientLeft n one.window t.books) ds es → AllZip (IsClientLeft (greatest m n) one.window s.books) cs es
  clients_again [] [] es p q = q
  clients_again [] (d ∷ ds) es p q = absurd p
  clients_again (c ∷ cs) [] es p q = absurd p
  clients_again (c ∷ cs) (d ∷ ds) [] p q = absurd q
  clients_again (c ∷ cs) (d ∷ ds) (e ∷ es) p q = (client_again c d e p.0 q.0, clients_again cs ds es p.1 q.1)

  path_again : (p : PathState) → PathFits m s.books p → PathFits n t.books p → PathFits (greatest m n) s.books p
  path_again p (inl closed) other = inl closed
  path_again p (inr all) (inl closed) = inl closed
  path_again p (inr all) (inr more) =
      inr (both (PacketFits (m p.config.source) (m p.config.destination) (book_at s.books p.config.destination) p.config.order) (PacketFits (n p.config.source) (n p.config.destination) (book_at t.books p.config.destination) p.config.order)
      (PacketFits (greatest m n p.config.source) (greatest m n p.config.destination) (book_at s.books p.config.destination) p.config.order)
      (packet_again (m p.config.destination) (n p.config.destination) (book_at s.books p.config.destination) (book_at t.books p.config.destination) (book_at u.books p.config.destination) (one.books p.config.destination) (two.books p.config.destination)
      (m p.config.source) (n p.config.source) p.config.order) p.packets all more)

  -- what fits what is left of a path fits the path
  path_before : (p q : PathState) → IsPathLeft p q → PathFits n t.books q → PathFits n t.books p
  path_before p q is fits = go (subst (PathFits n t.books) is.is fits)
    where
      go : PathFits n t.books (from_later is.went p) → PathFits n t.books p
      go (inl closed) = inl closed
      go (inr all) = inr (all_fit_behind (n p.config.source) (n p.config.destination) (book_at t.books p.config.destination) p is.went is.over all)

  fit_before : (ps qs : List PathState) → AllZip IsPathLeft ps qs → AllByRecursion (PathFits n t.books) qs → AllByRecursion (PathFits n t.books) ps
  fit_before [] qs zip all = tt
  fit_before (p ∷ ps) [] zip all = absurd zip
  fit_before (p ∷ ps) (q ∷ qs) zip all = (path_before p q zip.0 all.0, fit_before ps qs zip.1 all.1)

  pub left_of_left : IsLeftOf (greatest m n) s u
  left_of_left = record {
    window = one.window;
    in_force = one.in_force;
    still = two.still ∙ ap (λ w. Some w) same_window;
    paths = paths_again s.paths t.paths u.paths one.paths two.paths;
    chains = two.chains ∙ one.chains;
    books = λ chain. book_again (m chain) (n chain) (book_at s.books chain) (book_at t.books chain) (book_at u.books chain) (one.books chain) (two.books chain);
    rises = one.rises;
    rest = two.rest;
    clients = clients_again s.clients t.clients u.clients one.clients (subst (λ w. AllZip (IsClientLeft n w t.books) t.clients u.clients) same_window two.clients);
    fit =
        both (PathFits m s.books) (PathFits n t.books) (PathFits (greatest m n) s.books) path_again s.paths one.fit
        (All-from_recursion (PathFits n t.books) s.paths (fit_before s.paths t.paths one.paths (recursion_from_All (PathFits n t.books) t.paths two.fit)));
  }
