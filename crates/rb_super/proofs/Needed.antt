-- Nothing is needed below the floors.
use Rattle.std.proofs.Common.{◌≡◌, ℕ, ◌+◌, ◌-◌, ◌<◌, ◌≤◌, ◌==◌, ◌⊎◌, Bool, true, false, cond, nat_lt, nat_le, List, [], ◌∷◌, ◌++◌, length, map, reverse, Option, Some, None, inl, inr, refl, sym, ap, ◌∙◌, subst, arith, if◌then◌else◌}
use Rattle.std.specs.List.{All, AllByRecursion, filter, find, flat_map, list_all, slice_get}
use Rattle.std.specs.Option.{IfSome, IsSome, IsSomeAnd, option_map, option_map_or, option_to_list}
use Rattle.std.proofs.lemmas.Bool.{and_parts, eq-eqb, leb-true, leb-false, lt-ltb, true≢false, false≢true}
use Rattle.std.proofs.lemmas.List.{reverse-append, reverse-reverse}
use Rattle.std.proofs.lemmas.List.Elements.{All-from_recursion}
use Rattle.std.proofs.lemmas.Option.{none-some, same_Some}
use Rattle.rb_base.specs.Window.{Span}
use Rattle.rb_book.specs.Header.{Record}
use Rattle.rb_book.specs.Book.{Book, RecordAt, height_of, time_of, is_at, record_at}
use Rattle.rb_book.specs.Invariant.{IsBook}
use Rattle.rb_book.proofs.Lists.{found_passes}
use Rattle.rb_book.proofs.Rising.{Up, Up-from_increasing}
use Rattle.rb_scan.specs.Packet.{Packet, is_cleared, is_in_flight}
use Rattle.rb_scan.specs.declared.path.Order.{Order}
use Rattle.rb_scan.specs.declared.path.Order.TheVariants.{Ordered, Unordered}
use Rattle.rb_step.specs.LightClient.{Update}
use Rattle.rb_core_model.specs.Standing.{OpenBatch, ClientState, PathState, Standing, book_at, window_for}
use Rattle.rb_core_model.specs.Forgetting.{is_live_in, needs_of_client, lowest_late, needs_there, needs_here, needs_of_path, needs, lowest_of, floor}
use Rattle.rb_super.specs.Remains.{IsAfterGone, PacketFits, PathFits}
use Rattle.rb_super.specs.Rest.{IsAtRecord, NeedsNoLower, AreFloors}

-- ---- lists

front : {X : Type 0} (P : X → Type 0) (xs ys : List X) → AllByRecursion P (xs ++ ys) → AllByRecursion P xs
front P [] ys all = tt
front P (x ∷ xs) ys all = (all.0, front P xs ys all.1)

behind : {X : Type 0} (P : X → Type 0) (xs ys : List X) → AllByRecursion P (xs ++ ys) → AllByRecursion P ys
behind P [] ys all = all
behind P (x ∷ xs) ys all = behind P xs ys all.1

of_each : {X : Type 0} (P : ℕ → Type 0) (f : X → List ℕ) (xs : List X) → AllByRecursion P (flat_map f xs) → AllByRecursion (λ x. AllByRecursion P (f x)) xs
of_each P f [] all = tt
of_each P f (x ∷ xs) all = (front P (f x) (flat_map f xs) all, of_each P f xs (behind P (f x) (flat_map f xs) all))

weaker : {X : Type 0} (P Q : X → Type 0) → ((x : X) → P x → Q x) → (xs : List X) → AllByRecursion P xs → AllByRecursion Q xs
weaker P Q f [] all = tt
weaker P Q f (x ∷ xs) all = (f x all.0, weaker P Q f xs all.1)

listed : (P : ℕ → Type 0) (o : Option ℕ) → AllByRecursion P (option_to_list o) → IfSome o P
listed P None all = tt
listed P (Some x) all = all.0

all_listed : (k : ℕ) (ns : List ℕ) → list_all (λ h. nat_le k h) ns ≡ true → AllByRecursion (λ h. k ≤ h) ns
all_listed k [] e = tt
all_listed k (n ∷ ns) e = (let parts = and_parts (nat_le k n) (list_all (λ h. nat_le k h) ns) e in (leb-true k n parts.0, all_listed k ns parts.1))

none_below : (ns : List ℕ) → AllByRecursion (λ h. 0 ≤ h) ns
none_below [] = tt
none_below (n ∷ ns) = (omega arith, none_below ns)

-- what is found backwards is there
there_after : (m : ℕ) (xs ys : List RecordAt) → IsSome (find (is_at m) xs) ⊎ IsSome (find (is_at m) ys) → IsSome (find (is_at m) (xs ++ ys))
there_after m [] ys (inl no_such) = absurd (false≢true no_such)
there_after m [] ys (inr there) = there
there_after m (x ∷ xs) ys found = go (is_at m x) (there_after m xs ys) found
  where
    go : (b : Bool) → (IsSome (find (is_at m) xs) ⊎ IsSome (find (is_at m) ys) → IsSome (find (is_at m) (xs ++ ys)))
        → IsSome (cond b (Some x) (find (is_at m) xs)) ⊎ IsSome (find (is_at m) ys) → IsSome (cond b (Some x) (find (is_at m) (xs ++ ys)))
    go true rest any = refl
    go false rest any = rest any

found_back : (p : RecordAt → Bool) (xs : List RecordAt) (k : RecordAt) → find p xs ≡ Some k → IsSome (find (is_at (height_of k)) (reverse xs))
found_back p [] k e = absurd (none-some k e)
found_back p (x ∷ xs) k e =
    subst (λ ys. IsSome (find (is_at (height_of k)) ys)) (sym (reverse-append (x ∷ []) xs)) (there_after (height_of k) (reverse xs) (x ∷ []) (go (p x) e (found_back p xs k)))
  where
    go : (b : Bool) → cond b (Some x) (find p xs) ≡ Some k → (find p xs ≡ Some k → IsSome (find (is_at (height_of k)) (reverse xs)))
        → IsSome (find (is_at (height_of k)) (reverse xs)) ⊎ IsSome (find (is_at (height_of k)) (x ∷ []))
    go false f rest = inl (rest f)
    go true f rest =
        let same : height_of x ≡ height_of k = ap height_of (same_Some x k f) in
        inr (subst (λ b. IsSome (cond b (Some x) None)) (sym (eq-eqb (height_of x) (height_of k) same)) refl)

-- ---- a floor

-- nothing that is needed is below it
low : (ns : List ℕ) (records : List RecordAt) → AllByRecursion (λ h. lowest_of ns records ≤ h) ns
low [] records = tt
low (n ∷ ns) records = go (find (λ k. list_all (λ h. nat_le (height_of k) h) (n ∷ ns)) (reverse records)) refl
  where
    go : (o : Option RecordAt) → find (λ k. list_all (λ h. nat_le (height_of k) h) (n ∷ ns)) (reverse records) ≡ o → AllByRecursion (λ h. option_map_or height_of o 0 ≤ h) (n ∷ ns)
    go None e = none_below (n ∷ ns)
    go (Some k) e = all_listed (height_of k) (n ∷ ns) (found_passes (λ j. list_all (λ h. nat_le (height_of j) h) (n ∷ ns)) (reverse records) k e)

-- it is the height of a record, or 0
at_record : (ns : List ℕ) (b : Book) → IsAtRecord (lowest_of ns b.records) b
at_record [] b = inl (λ k d lt. omega arith)
at_record (n ∷ ns) b = go (find (λ k. list_all (λ h. nat_le (height_of k) h) (n ∷ ns)) (reverse b.records)) refl
  where
    some_mapped : (o : Option RecordAt) → IsSome o → IsSome (option_map (λ (k : RecordAt). k.record_of) o)
    some_mapped None p = p
    some_mapped (Some k) p = refl

    go : (o : Option RecordAt) → find (λ k. list_all (λ h. nat_le (height_of k) h) (n ∷ ns)) (reverse b.records) ≡ o → IsAtRecord (option_map_or height_of o 0) b
    go None e = inl (λ k d lt. omega arith)
    go (Some k) e =
        inr (some_mapped (find (is_at (height_of k)) b.records)
        (subst (λ xs. IsSome (find (is_at (height_of k)) xs)) (reverse-reverse b.records) (found_back (λ j. list_all (λ h. nat_le (height_of j) h) (n ∷ ns)) (reverse b.records) k e)))

-- ---- a client

live_passes : (w : Span) (period : ℕ) (b : Book) (h : ℕ) → IsSomeAnd (record_at b h) (λ (r : Record). w.until < r.time + period) → is_live_in w period b h ≡ true
live_passes w period b h live = go (record_at b h) live
  where
    go : (o : Option Record) → IsSomeAnd o (λ (r : Record). w.until < r.time + period) → option_map_or (λ (r : Record). nat_lt w.until (r.time + period)) o false ≡ true
    go None live = absurd live
    go (Some r) live = lt-ltb w.until (r.time + period) live

of_passing : (P : ℕ → Type 0) (p : ℕ → Bool) (xs : List ℕ) → AllByRecursion P (filter p xs) → AllByRecursion (λ h. p h ≡ true → P h) xs
of_passing P p [] all = tt
of_passing P p (x ∷ xs) all = go (p x) refl (of_passing P p xs) all
  where
    go : (b : Bool) → p x ≡ b → (AllByRecursion P (filter p xs) → AllByRecursion (λ h. p h ≡ true → P h) xs) → AllByRecursion P (cond b (x ∷ filter p xs) (filter p xs)) → AllByRecursion (λ h. p h ≡ true → P h) (x ∷ xs)
    go true e rest all = (λ t. all.0, rest all.1)
    go false e rest all = (λ t. absurd (true≢false (sym t ∙ e)), rest all)

client_needs : (m : ℕ) (w : Span) (b : Book) (c : ClientState) → AllByRecursion (λ h. m ≤ h) (needs_of_client w b c) → NeedsNoLower m w b c
client_needs m w b c all =
    let lives = front (λ h. m ≤ h) (filter (is_live_in (window_for w c) c.config.options.period b) c.stored) _ all in
    let others = behind (λ h. m ≤ h) (filter (is_live_in (window_for w c) c.config.options.period b) c.stored) _ all in
    let newest = front (λ h. m ≤ h) (option_to_list (slice_get c.stored (length c.stored - 1))) _ others in
    let batch = behind (λ h. m ≤ h) (option_to_list (slice_get c.stored (length c.stored - 1))) _ others in
    record {
      dead =
          All-from_recursion (λ h. h < m → IsSomeAnd (record_at b h) (λ (r : Record). (window_for w c).until < r.time + c.config.options.period) → ⊥) c.stored
          (weaker (λ h. is_live_in (window_for w c) c.config.options.period b h ≡ true → m ≤ h) (λ h. h < m → IsSomeAnd (record_at b h) (λ (r : Record). (window_for w c).until < r.time + c.config.options.period) → ⊥)
          (λ h needed lt live. (let le = needed (live_passes (window_for w c) c.config.options.period b h live) in absurd (omega arith))) c.stored
          (of_passing (λ h. m ≤ h) (is_live_in (window_for w c) c.config.options.period b) c.stored lives));
      newest = listed (λ h. m ≤ h) (slice_get c.stored (length c.stored - 1)) newest;
      batch = go c.batch batch;
    }
  where
    heights : (us : List Update) → AllByRecursion (λ h. m ≤ h) (map (λ (u : Update). u.height) us) → AllByRecursion (λ (u : Update). m ≤ u.height) us
    heights [] all = tt
    heights (u ∷ us) all = (all.0, heights us all.1)

    go : (o : Option OpenBatch) → AllByRecursion (λ h. m ≤ h) (option_map_or (λ (x : OpenBatch). map (λ (u : Update). u.height) x.updates) o []) → IfSome o (λ (x : OpenBatch). All (λ (u : Update). m ≤ u.height) x.updates)
    go None all = tt
    go (Some x) all = All-from_recursion (λ (u : Update). m ≤ u.height) x.updates (heights x.updates all)

-- ---- a packet

-- records below the lowest late one are earlier
earlier : (m limit : ℕ) (xs : List RecordAt) → Up (λ (x y : RecordAt). height_of x < height_of y) xs → Up (λ (x y : RecordAt). time_of x < time_of y) xs
    → IfSome (option_map height_of (find (λ k. nat_le limit (time_of k)) xs)) (λ h. m ≤ h) → AllByRecursion (λ k. height_of k < m → time_of k < limit) xs
earlier m limit [] rh rt high = tt
earlier m limit (x ∷ xs) rh rt high = go (earlier m limit xs rh.1 rt.1) (nat_le limit (time_of x)) refl high
  where
    go : (IfSome (option_map height_of (find (λ k. nat_le limit (time_of k)) xs)) (λ h. m ≤ h) → AllByRecursion (λ k. height_of k < m → time_of k < limit) xs) → (b : Bool) → nat_le limit (time_of x) ≡ b
        → IfSome (option_map height_of (cond b (Some x) (find (λ k. nat_le limit (time_of k)) xs))) (λ h. m ≤ h) → AllByRecursion (λ k. height_of k < m → time_of k < limit) (x ∷ xs)
    go rest true e high =
        let le : m ≤ height_of x = high in
        (λ lt. absurd (omega arith), weaker (λ k. height_of x < height_of k) (λ k. height_of k < m → time_of k < limit) (λ k less lt. absurd (omega arith)) xs rh.0)
    go rest false e high = (λ lt. leb-false limit (time_of x) e, rest high)

after_gone : (m : ℕ) (b : Book) → IsBook b → (limit : Option ℕ) → IfSome (lowest_late b limit) (λ h. m ≤ h) → IfSome limit (IsAfterGone m b)
after_gone m b book None high = tt
after_gone m b book (Some limit) high =
    All-from_recursion (λ (k : RecordAt). height_of k < m → time_of k < limit) b.records
    (earlier m limit b.records (Up-from_increasing height_of b.records book.records.heights) (Up-from_increasing time_of b.records book.records.times) high)

packet_needs : (source m : ℕ) (b : Book) → IsBook b → (order : Order) (q : Packet) → AllByRecursion (λ h. source ≤ h) (needs_here order q) → AllByRecursion (λ h. m ≤ h) (needs_there b order q) → PacketFits source m b order q
packet_needs source m b book Unordered q here there = record {
  times_out = go (is_in_flight q) refl there;
  receive = inl refl;
  timeout = inl refl;
  written = inl refl;
}
  where
    go : (f : Bool) → is_in_flight q ≡ f → AllByRecursion (λ h. m ≤ h) (cond f (option_to_list (lowest_late b q.timeout_time)) []) → (is_in_flight q ≡ false) ⊎ IfSome q.timeout_time (IsAfterGone m b)
    go false e all = inl e
    go true e all = inr (after_gone m b book q.timeout_time (listed (λ h. m ≤ h) (lowest_late b q.timeout_time) all))
packet_needs source m b book Ordered q here there =
    let flying = front (λ h. m ≤ h) (if is_in_flight q then option_to_list (lowest_late b q.timeout_time) ++ option_to_list q.timeout_height else []) _ there in
    let acked = behind (λ h. m ≤ h) (if is_in_flight q then option_to_list (lowest_late b q.timeout_time) ++ option_to_list q.timeout_height else []) _ there in
    record {
      times_out = times (is_in_flight q) refl flying;
      receive = inr (receives (is_in_flight q) refl here);
      timeout = inr (heights (is_in_flight q) refl flying);
      written = inr (writes (is_cleared q) refl acked);
    }
  where
    times : (f : Bool) → is_in_flight q ≡ f → AllByRecursion (λ h. m ≤ h) (cond f (option_to_list (lowest_late b q.timeout_time) ++ option_to_list q.timeout_height) []) → (is_in_flight q ≡ false) ⊎ IfSome q.timeout_time (IsAfterGone m b)
    times false e all = inl e
    times true e all = inr (after_gone m b book q.timeout_time (listed (λ h. m ≤ h) (lowest_late b q.timeout_time) (front (λ h. m ≤ h) (option_to_list (lowest_late b q.timeout_time)) (option_to_list q.timeout_height) all)))

    receives : (f : Bool) → is_in_flight q ≡ f → AllByRecursion (λ h. source ≤ h) (cond f ((q.sent + 1) ∷ []) []) → (is_in_flight q ≡ false) ⊎ (source ≤ q.sent + 1)
    receives false e all = inl e
    receives true e all = inr all.0

    heights : (f : Bool) → is_in_flight q ≡ f → AllByRecursion (λ h. m ≤ h) (cond f (option_to_list (lowest_late b q.timeout_time) ++ option_to_list q.timeout_height) []) → (is_in_flight q ≡ false) ⊎ IfSome q.timeout_height (λ h. m ≤ h)
    heights false e all = inl e
    heights true e all = inr (listed (λ h. m ≤ h) q.timeout_height (behind (λ h. m ≤ h) (option_to_list (lowest_late b q.timeout_time)) (option_to_list q.timeout_height) all))

    mapped : (o : Option ℕ) → IfSome (option_map (λ (block : ℕ). block + 1) o) (λ h. m ≤ h) → IfSome o (λ block. m ≤ block + 1)
    mapped None p = tt
    mapped (Some block) p = p

    writes : (f : Bool) → is_cleared q ≡ f → AllByRecursion (λ h. m ≤ h) (cond f [] (option_to_list (option_map (λ (block : ℕ). block + 1) q.written))) → (is_cleared q ≡ true) ⊎ IfSome q.written (λ block. m ≤ block + 1)
    writes true e all = inl e
    writes false e all = inr (mapped q.written (listed (λ h. m ≤ h) (option_map (λ (block : ℕ). block + 1) q.written) all))

-- ---- all

both : {X : Type 0} (P Q R : X → Type 0) → ((x : X) → P x → Q x → R x) → (xs : List X) → AllByRecursion P xs → AllByRecursion Q xs → AllByRecursion R xs
both P Q R f [] a b = tt
both P Q R f (x ∷ xs) a b = (f x a.0 b.0, both P Q R f xs a.1 b.1)

module _ (w : Span) (s : Standing) (in_force : s.window ≡ Some w) (books : (chain : ℕ) → IsBook (book_at s.books chain)) where
  at_floor : (chain : ℕ) → AllByRecursion (λ h. floor w s chain ≤ h) (needs w s chain)
  at_floor chain = low (needs w s chain) (book_at s.books chain).records

  at_clients : (chain : ℕ) → AllByRecursion (λ (c : ClientState). AllByRecursion (λ h. floor w s chain ≤ h) (if c.config.tracks == chain then needs_of_client w (book_at s.books chain) c else [])) s.clients
  at_clients chain =
      of_each (λ h. floor w s chain ≤ h) (λ (c : ClientState). if c.config.tracks == chain then needs_of_client w (book_at s.books chain) c else []) s.clients
      (front (λ h. floor w s chain ≤ h) (flat_map (λ (c : ClientState). if c.config.tracks == chain then needs_of_client w (book_at s.books chain) c else []) s.clients) _ (at_floor chain))

  at_paths : (chain : ℕ) → AllByRecursion (λ (p : PathState). AllByRecursion (λ h. floor w s chain ≤ h) (needs_of_path s.books chain p)) s.paths
  at_paths chain =
      of_each (λ h. floor w s chain ≤ h) (needs_of_path s.books chain) s.paths
      (behind (λ h. floor w s chain ≤ h) (flat_map (λ (c : ClientState). if c.config.tracks == chain then needs_of_client w (book_at s.books chain) c else []) s.clients) _ (at_floor chain))

  -- of each element for every chain, of every element for its own
  for_own : {X : Type 0} (P : ℕ → X → Type 0) (xs : List X) → ((chain : ℕ) → AllByRecursion (P chain) xs) → AllByRecursion (λ x. (chain : ℕ) → P chain x) xs
  for_own P [] all = tt
  for_own P (x ∷ xs) all = (λ chain. (all chain).0, for_own P xs (λ chain. (all chain).1))

  client_fits : (c : ClientState) → ((chain : ℕ) → AllByRecursion (λ h. floor w s chain ≤ h) (if c.config.tracks == chain then needs_of_client w (book_at s.books chain) c else []))
      → NeedsNoLower (floor w s c.config.tracks) w (book_at s.books c.config.tracks) c
  client_fits c all =
      client_needs (floor w s c.config.tracks) w (book_at s.books c.config.tracks) c
      (subst (λ b. AllByRecursion (λ h. floor w s c.config.tracks ≤ h) (if b then needs_of_client w (book_at s.books c.config.tracks) c else [])) (eq-eqb c.config.tracks c.config.tracks refl) (all c.config.tracks))

  path_fits : (p : PathState) → ((chain : ℕ) → AllByRecursion (λ h. floor w s chain ≤ h) (needs_of_path s.books chain p)) → PathFits (floor w s) s.books p
  path_fits p all = go p.closed refl
    where
      open_needs : (chain : ℕ) → p.closed ≡ false
          → AllByRecursion (λ h. floor w s chain ≤ h) ((if p.config.source == chain then flat_map (needs_here p.config.order) p.packets else []) ++ (if p.config.destination == chain then flat_map (needs_there (book_at s.books chain) p.config.order) p.packets else []))
      open_needs chain e =
          subst (λ b. AllByRecursion (λ h. floor w s chain ≤ h)
          (if b then [] else (if p.config.source == chain then flat_map (needs_here p.config.order) p.packets else []) ++ (if p.config.destination == chain then flat_map (needs_there (book_at s.books chain) p.config.order) p.packets else [])))
          e (all chain)

      here : p.closed ≡ false → AllByRecursion (λ h. floor w s p.config.source ≤ h) (flat_map (needs_here p.config.order) p.packets)
      here e =
          subst (λ b. AllByRecursion (λ h. floor w s p.config.source ≤ h) (if b then flat_map (needs_here p.config.order) p.packets else [])) (eq-eqb p.config.source p.config.source refl)
          (front (λ h. floor w s p.config.source ≤ h) (if p.config.source == p.config.source then flat_map (needs_here p.config.order) p.packets else []) _ (open_needs p.config.source e))

      there : p.closed ≡ false → AllByRecursion (λ h. floor w s p.config.destination ≤ h) (flat_map (needs_there (book_at s.books p.config.destination) p.config.order) p.packets)
      there e =
          subst (λ b. AllByRecursion (λ h. floor w s p.config.destination ≤ h) (if b then flat_map (needs_there (book_at s.books p.config.destination) p.config.order) p.packets else [])) (eq-eqb p.config.destination p.config.destination refl)
          (behind (λ h. floor w s p.config.destination ≤ h) (if p.config.source == p.config.destination then flat_map (needs_here p.config.order) p.packets else []) _ (open_needs p.config.destination e))

      go : (b : Bool) → p.closed ≡ b → PathFits (floor w s) s.books p
      go true e = inl e
      go false e =
          inr (All-from_recursion (PacketFits (floor w s p.config.source) (floor w s p.config.destination) (book_at s.books p.config.destination) p.config.order) p.packets
          (both (λ q. AllByRecursion (λ h. floor w s p.config.source ≤ h) (needs_here p.config.order q)) (λ q. AllByRecursion (λ h. floor w s p.config.destination ≤ h) (needs_there (book_at s.books p.config.destination) p.config.order q))
          (PacketFits (floor w s p.config.source) (floor w s p.config.destination) (book_at s.books p.config.destination) p.config.order)
          (packet_needs (floor w s p.config.source) (floor w s p.config.destination) (book_at s.books p.config.destination) (books p.config.destination) p.config.order) p.packets
          (of_each (λ h. floor w s p.config.source ≤ h) (needs_here p.config.order) p.packets (here e))
          (of_each (λ h. floor w s p.config.destination ≤ h) (needs_there (book_at s.books p.config.destination) p.config.order) p.packets (there e))))

  all_floors : AreFloors (floor w s) s
  all_floors = record {
    window = w;
    in_force = in_force;
    records = λ chain. at_record (needs w s chain) (book_at s.books chain);
    clients =
        All-from_recursion (λ (c : ClientState). NeedsNoLower (floor w s c.config.tracks) w (book_at s.books c.config.tracks) c) s.clients
        (weaker (λ (c : ClientState). (chain : ℕ) → AllByRecursion (λ h. floor w s chain ≤ h) (if c.config.tracks == chain then needs_of_client w (book_at s.books chain) c else []))
        (λ (c : ClientState). NeedsNoLower (floor w s c.config.tracks) w (book_at s.books c.config.tracks) c) client_fits s.clients
        (for_own (λ chain (c : ClientState). AllByRecursion (λ h. floor w s chain ≤ h) (if c.config.tracks == chain then needs_of_client w (book_at s.books chain) c else [])) s.clients at_clients));
    fit =
        All-from_recursion (PathFits (floor w s) s.books) s.paths
        (weaker (λ (p : PathState). (chain : ℕ) → AllByRecursion (λ h. floor w s chain ≤ h) (needs_of_path s.books chain p)) (PathFits (floor w s) s.books) path_fits s.paths
        (for_own (λ chain (p : PathState). AllByRecursion (λ h. floor w s chain ≤ h) (needs_of_path s.books chain p)) s.paths at_paths));
  }

-- nothing is needed below the floors
pub floors_are_floors : (w : Span) (s : Standing) → s.window ≡ Some w → ((chain : ℕ) → IsBook (book_at s.books chain)) → AreFloors (floor w s) s
floors_are_floors = λ w s in_force books. all_floors w s in_force books
