-- What an event makes of all, it makes of what is left, if the event speaks of nothing that went.
use Rattle.std.proofs.Common.{◌≡◌, ℕ, ◌+◌, ◌<◌, ◌≤◌, ◌==◌, ◌⊎◌, ◌&&◌, Bool, true, false, cond, ◌||◌, nat_lt, List, [], ◌∷◌, length, set, count_by, Option, Some, None, is_some, inl, inr, refl, sym, ap, ◌∙◌, subst, arith}
use Rattle.std.specs.Prelude.{unwrap_or}
use Rattle.std.specs.List.{All, AllByRecursion, list_any, slice_get, slice_index_or}
use Rattle.std.specs.Option.{IfSome, IsSomeAnd, option_map, option_map_or, option_and_then, option_or}
use Rattle.std.proofs.lemmas.Bool.{cases_eq, cases_lt, ltb-false}
use Rattle.std.proofs.lemmas.List.{get_or-set_same, get_or-set_other, length-set, set_past}
use Rattle.std.proofs.lemmas.List.Elements.{All-from_recursion, All-weaker, recursion_from_All}
use Rattle.std.proofs.lemmas.Option.{cond_some, same_Some}
use Rattle.rb_script_types.specs.declared.block.Block.{Block}
use Rattle.rb_base.specs.Window.{Span}
use Rattle.rb_valset.specs.Validator.{Member}
use Rattle.rb_valset.specs.ValidatorSet.{set_hash, same_set}
use Rattle.rb_valset.specs.Same.{same_set-Decides}
use Rattle.rb_book.specs.Header.{Record, Header}
use Rattle.rb_book.specs.Book.{Book, RecordAt, height_of, time_of, is_below, set_of, record_at, header_at}
use Rattle.rb_book.specs.Intake.{with_set, with_record, with_header, after_set, after_record, after_header, unless, set_refusal_beside, set_refusal, record_refusal, header_refusal}
use Rattle.rb_book.specs.Invariant.{IsBook, Rises}
use Rattle.rb_book.specs.declared.error.BookError.{BookError}
use Rattle.rb_book.specs.declared.error.BookError.TheVariants as book
use Rattle.rb_book.specs.Laws.{StaysABook}
use Rattle.rb_book.proofs.Kept.{record_elsewhere}
use Rattle.rb_book.proofs.Lists.{All-insert}
use Rattle.rb_scan.specs.Packet.{Packet, is_in_flight}
use Rattle.rb_scan.specs.declared.path.Order.TheVariants.{Unordered}
use Rattle.rb_script_types.specs.Refusal.{of_book}
use Rattle.rb_script_types.specs.declared.refusal.Refusal.TheVariants.{OutOfOrder, WindowBack}
use Rattle.rb_step.specs.LightClient.{Update}
use Rattle.rb_core_model.specs.Event.{Event, IsEvent, Window, HostWindow, Asked, SetSeen, HeaderSeen, StoredSeen, Sent, Received, AckWritten, Cleared, Closed, Scanned, Planned, Settled}
use Rattle.rb_core_model.specs.Refusal.{refused_if}
use Rattle.rb_core_model.specs.Standing.{OpenBatch, ClientState, PathState, Standing, empty_book, book_at, tracked, window_for, goes_back, goes_back_on, open_batch, judged, changed, changed_at, with_book, with_client, with_path, with_packet, with_mark, with_height, in_host_window, new_packet, after_batch, after_messages, after_settled, settled_messages, view_of_path, sent_refusal}
use Rattle.rb_core_model.specs.Steps.{IsFromOutside}
use Rattle.rb_core_model.proofs.Intake.{set_accepted, header_accepted, record_accepted}
use Rattle.rb_core_model.proofs.Options.{passes, chained}
use Rattle.rb_super.specs.Free.{if_not_full, freely}
use Rattle.rb_super.specs.Left.{IsBookLeft, AreStoredLeft}
use Rattle.rb_super.specs.Remains.{IsAfterGone, PacketFits, PathFits, IsClientLeft, IsPathLeft, IsLeftOf}
use Rattle.rb_super.specs.Spoken.{IsSpared}
use Rattle.rb_super.proofs.Additions.{IsNewOrSame, record_kept, header_kept, set_kept}
use Rattle.rb_super.proofs.Judged.{tracked_same}
use Rattle.rb_super.proofs.Marks.{received_fits, cleared_fits, written_fits, closed_fits, sent_fits, changed_fit, messages_fit}
use Rattle.rb_super.proofs.Named.{IsNamed, set_named, record_named, header_named}
use Rattle.rb_super.proofs.Paths.{received_left, written_left, cleared_left, closed_left, packet_left, messages_left}
use Rattle.rb_super.proofs.Refusals.{if_room}
use Rattle.rb_super.proofs.Rises.{record_rises, header_rises}
use Rattle.rb_super.proofs.Stored.{one_stored, batch_stored}
use Rattle.rb_super.proofs.Zips.{IsPair, pair_at, zip_weaker, zip_changed, zip_mapped}

-- ---- books at their places

at_chain : (books : List Book) (chain : ℕ) (b : Book) (n : ℕ) → chain < length books → n ≡ chain → book_at (set books chain b) n ≡ b
at_chain books chain b n lt e = ap (book_at (set books chain b)) e ∙ get_or-set_same books chain b (empty_book 1) lt

at_other : (books : List Book) (chain : ℕ) (b : Book) (n : ℕ) → (n ≡ chain → ⊥) → book_at (set books chain b) n ≡ book_at books n
at_other books chain b n ne = get_or-set_other books chain n b (empty_book 1) ne

everywhere : (P : ℕ → Book → Book → Type 0) (xs ys : List Book) (chain : ℕ) (b c : Book) → chain < length xs → chain < length ys → ((n : ℕ) → P n (book_at xs n) (book_at ys n)) → P chain b c
    → (n : ℕ) → P n (book_at (set xs chain b) n) (book_at (set ys chain c) n)
everywhere P xs ys chain b c in_xs in_ys all new n = go (cases_eq n chain)
  where
    go : (n ≡ chain) ⊎ (n ≡ chain → ⊥) → P n (book_at (set xs chain b) n) (book_at (set ys chain c) n)
    go (inl e) =
        subst (λ x. P n x (book_at (set ys chain c) n)) (sym (at_chain xs chain b n in_xs e))
        (subst (λ y. P n b y) (sym (at_chain ys chain c n in_ys e)) (subst (λ k. P k b c) (sym e) new))
    go (inr ne) =
        subst (λ x. P n x (book_at (set ys chain c) n)) (sym (at_other xs chain b n ne))
        (subst (λ y. P n (book_at xs n) y) (sym (at_other ys chain c n ne)) (all n))

-- ---- what a light store takes in

-- what is taken in is not below the height
pub record Takes (k : ℕ) (b after : Book) : Type 0 where
  pub below : (h : ℕ) → h < k → record_at after h ≡ record_at b h
  pub gone : (limit : ℕ) → IsAfterGone k b limit → IsAfterGone k after limit

takes_nothing : (k : ℕ) (b : Book) → Takes k b b
takes_nothing k b = record { below = λ h lt. refl; gone = λ limit late. late }

same_records : (b : Book) (x : List Member) → (after_set b x).records ≡ b.records
same_records b x = go (set_of b (set_hash x))
  where
    go : (o : Option (List Member)) → (cond (is_some o) b (with_set b x)).records ≡ b.records
    go None = refl
    go (Some known) = refl

takes_set : (k : ℕ) (b : Book) (x : List Member) → Takes k b (after_set b x)
takes_set k b x = record {
  below = λ h lt. ap (λ (rs : List RecordAt). record_at (record b { records = rs }) h) (same_records b x);
  gone = λ limit late. subst (λ (rs : List RecordAt). All (λ (r : RecordAt). height_of r < k → time_of r < limit) rs) (sym (same_records b x)) late;
}

module _ (k : ℕ) (b : Book) where
  below_record : (height : ℕ) (r : Record) (q : ℕ) → k ≤ height → q < k → record_at (after_record b height r) q ≡ record_at b q
  below_record height r q le lt = go (record_at b height)
    where
      go : (o : Option Record) → record_at (cond (is_some o) b (with_record b height r)) q ≡ record_at b q
      go (Some known) = refl
      go None = record_elsewhere b height r q (λ e. omega arith)

  later_record : (height : ℕ) (r : Record) (limit : ℕ) → k ≤ height → IsAfterGone k b limit → IsAfterGone k (after_record b height r) limit
  later_record height r limit le late = go (record_at b height)
    where
      go : (o : Option Record) → IsAfterGone k (cond (is_some o) b (with_record b height r)) limit
      go (Some known) = late
      go None =
          All-insert (λ (x : RecordAt). height_of x < k → time_of x < limit) b.records (count_by (is_below height) b.records) (record { height = height; record_of = r })
          (λ lt. absurd (omega arith)) late

  takes_record : (height : ℕ) (r : Record) → k ≤ height → Takes k b (after_record b height r)
  takes_record height r le = record { below = λ q lt. below_record height r q le lt; gone = λ limit late. later_record height r limit le late }

  takes_header : (h : Header) → k ≤ h.height → Takes k b (after_header b h)
  takes_header h le = record { below = λ q lt. under q lt (header_at b h.height); gone = λ limit late. go limit late (header_at b h.height) }
    where
      under : (q : ℕ) → q < k → (o : Option Header) → record_at (cond (is_some o) b (with_header (after_record b h.height h.record_of) h)) q ≡ record_at b q
      under q lt (Some known) = refl
      under q lt None = below_record h.height h.record_of q le lt

      go : (limit : ℕ) → IsAfterGone k b limit → (o : Option Header) → IsAfterGone k (cond (is_some o) b (with_header (after_record b h.height h.record_of) h)) limit
      go limit late (Some known) = late
      go limit late None = later_record h.height h.record_of limit le late

if_weaker : {X : Type 0} (P Q : X → Type 0) → ((x : X) → P x → Q x) → (o : Option X) → IfSome o P → IfSome o Q
if_weaker P Q f None p = p
if_weaker P Q f (Some x) p = f x p

-- ---- windows that go on

or_false : (a b : Bool) → (a || b) ≡ false → (a ≡ false) × (b ≡ false)
or_false true b e = absurd (cc)
or_false false b e = (refl, e)

none_any : {X : Type 0} (p : X → Bool) (xs : List X) → list_any p xs ≡ false → AllByRecursion (λ x. p x ≡ false) xs
none_any p [] e = tt
none_any p (x ∷ xs) e = (let parts = or_false (p x) (list_any p xs) e in (parts.0, none_any p xs parts.1))

-- a window that doesn't go back ends no earlier
until_forward : (present window : Span) → goes_back (Some present) window ≡ false → present.until ≤ window.until
until_forward present window e = ltb-false window.until present.until (or_false (nat_lt window.from present.from) (nat_lt window.until present.until) e).1

forward_until : (o : Option Span) (common window : Span) → goes_back (option_or o (Some common)) window ≡ false → (unwrap_or o common).until ≤ window.until
forward_until None common window e = until_forward common window e
forward_until (Some own) common window e = until_forward own window e

-- what is dead in a window is dead in a later one
stored_later : (k period : ℕ) (w v : Span) → w.until ≤ v.until → (b : Book) (xs ys : List ℕ) → AreStoredLeft k period w b xs ys → AreStoredLeft k period v b xs ys
stored_later k period w v later b xs ys is = record {
  heights = is.heights;
  dead = λ i d lt live. is.dead i d lt (sooner (record_at b (slice_index_or is.heights.gone i d)) live);
  some = is.some;
}
  where
    sooner : (o : Option Record) → IsSomeAnd o (λ (r : Record). v.until < r.time + period) → IsSomeAnd o (λ (r : Record). w.until < r.time + period)
    sooner None live = live
    sooner (Some r) live = omega arith

module _ (m : ℕ → ℕ) (s t : Standing) (left : IsLeftOf m s t) where
  -- ---- a light store that took something in

  module _ (chain : ℕ) (b c : Book) (inside : chain < length s.books) (takes : Takes (m chain) (book_at s.books chain) b) where
    takes_at : (n : ℕ) → Takes (m n) (book_at s.books n) (book_at (set s.books chain b) n)
    takes_at n = everywhere (λ k x y. Takes (m k) (book_at s.books k) y) s.books s.books chain b b inside inside (λ k. takes_nothing (m k) (book_at s.books k)) takes n

    client_kept : (x y : ClientState) → IsClientLeft m left.window s.books x y → IsClientLeft m left.window (set s.books chain b) x y
    client_kept x y is = record {
      is = is.is;
      stored = record {
        heights = is.stored.heights;
        dead = λ i d lt live.
            is.stored.dead i d lt
            (subst (λ (o : Option Record). IsSomeAnd o (λ (r : Record). (window_for left.window x).until < r.time + x.config.options.period))
            ((takes_at x.config.tracks).below (slice_index_or is.stored.heights.gone i d) (is.stored.heights.below i d lt)) live);
        some = is.stored.some;
      };
      batch = is.batch;
    }

    packet_kept : (p : PathState) (q : Packet) → PacketFits (m p.config.source) (m p.config.destination) (book_at s.books p.config.destination) p.config.order q
        → PacketFits (m p.config.source) (m p.config.destination) (book_at (set s.books chain b) p.config.destination) p.config.order q
    packet_kept p q fits = record { times_out = go fits.times_out; receive = fits.receive; timeout = fits.timeout; written = fits.written }
      where
        go : (is_in_flight q ≡ false) ⊎ IfSome q.timeout_time (IsAfterGone (m p.config.destination) (book_at s.books p.config.destination))
            → (is_in_flight q ≡ false) ⊎ IfSome q.timeout_time (IsAfterGone (m p.config.destination) (book_at (set s.books chain b) p.config.destination))
        go (inl landed) = inl landed
        go (inr late) = inr (if_weaker _ _ (λ limit. (takes_at p.config.destination).gone limit) q.timeout_time late)

    path_kept : (p : PathState) → PathFits m s.books p → PathFits m (set s.books chain b) p
    path_kept p (inl closed) = inl closed
    path_kept p (inr all) = inr (All-weaker _ _ (packet_kept p) p.packets all)

    pub book_left : IsBookLeft (m chain) b c → Rises b.records → IsBook c → IsLeftOf m (with_book s chain b) (with_book t chain c)
    book_left is rising rest =
        let in_t : chain < length t.books = (let e = left.chains in omega arith) in
        record {
          window = left.window;
          in_force = left.in_force;
          still = left.still;
          paths = left.paths;
          chains = length-set t.books chain c ∙ left.chains ∙ sym (length-set s.books chain b);
          books = everywhere (λ n x y. IsBookLeft (m n) x y) s.books t.books chain b c inside in_t left.books is;
          rises = everywhere (λ n x y. Rises x.records) s.books t.books chain b c inside in_t left.rises rising;
          rest = everywhere (λ n x y. IsBook y) s.books t.books chain b c inside in_t left.rest rest;
          clients = zip_weaker (IsClientLeft m left.window s.books) (IsClientLeft m left.window (set s.books chain b)) client_kept s.clients t.clients left.clients;
          fit = All-weaker (PathFits m s.books) (PathFits m (set s.books chain b)) path_kept s.paths left.fit;
        }

  -- where the chain isn't there, nothing changes
  pub any_book : (chain : ℕ) (b c : Book) → Takes (m chain) (book_at s.books chain) b → IsBookLeft (m chain) b c → Rises b.records → IsBook c → IsLeftOf m (with_book s chain b) (with_book t chain c)
  any_book chain b c takes is rising rest = go (cases_lt chain (length s.books))
    where
      go : (chain < length s.books) ⊎ (length s.books ≤ chain) → IsLeftOf m (with_book s chain b) (with_book t chain c)
      go (inl inside) = book_left chain b c inside takes is rising rest
      go (inr past) =
          let past_t : length t.books ≤ chain = (let e = left.chains in omega arith) in
          subst (λ (bs : List Book). IsLeftOf m (record s { books = bs }) (with_book t chain c)) (sym (set_past s.books chain b past))
          (subst (λ (bs : List Book). IsLeftOf m s (record t { books = bs })) (sym (set_past t.books chain c past_t)) left)

  -- ---- clients and paths

  pub client_left : (client : ℕ) (f : ClientState → ClientState)
      → ((x y : ClientState) → slice_get s.clients client ≡ Some x → IsClientLeft m left.window s.books x y → IsClientLeft m left.window s.books (f x) (f y))
      → IsLeftOf m (with_client s client f) (with_client t client f)
  client_left client f keeps = record {
    window = left.window;
    in_force = left.in_force;
    still = left.still;
    paths = left.paths;
    chains = left.chains;
    books = left.books;
    rises = left.rises;
    rest = left.rest;
    clients = zip_changed (IsClientLeft m left.window s.books) f f s.clients t.clients client (λ x y at_x at_y is. keeps x y at_x is) left.clients;
    fit = left.fit;
  }

  path_left : (path : ℕ) (f : PathState → PathState) → ((p : PathState) → slice_get s.paths path ≡ Some p → PathFits m s.books p → PathFits m s.books (f p))
      → ((p q : PathState) → slice_get s.paths path ≡ Some p → slice_get t.paths path ≡ Some q → IsPathLeft p q → IsPathLeft (f p) (f q)) → IsLeftOf m (with_path s path f) (with_path t path f)
  path_left path f keeps goes = record {
    window = left.window;
    in_force = left.in_force;
    still = left.still;
    paths = zip_changed IsPathLeft f f s.paths t.paths path goes left.paths;
    chains = left.chains;
    books = left.books;
    rises = left.rises;
    rest = left.rest;
    clients = left.clients;
    fit = All-from_recursion (PathFits m s.books) (changed_at f s.paths path) (changed_fit m s.books f s.paths path keeps (recursion_from_All (PathFits m s.books) s.paths left.fit));
  }

  -- ---- a window

  window_left : (window : Span) → left.window.until ≤ window.until → IsLeftOf m (record s { window = Some window }) (record t { window = Some window })
  window_left window later = record {
    window = window;
    in_force = refl;
    still = refl;
    paths = left.paths;
    chains = left.chains;
    books = left.books;
    rises = left.rises;
    rest = left.rest;
    clients = zip_weaker (IsClientLeft m left.window s.books) (IsClientLeft m window s.books) aged s.clients t.clients left.clients;
    fit = left.fit;
  }
    where
      later_for : (o : Option Span) → (unwrap_or o left.window).until ≤ (unwrap_or o window).until
      later_for None = later
      later_for (Some own) = omega arith

      aged : (x y : ClientState) → IsClientLeft m left.window s.books x y → IsClientLeft m window s.books x y
      aged x y is = record {
        is = is.is;
        stored = stored_later (m x.config.tracks) x.config.options.period (window_for left.window x) (window_for window x) (later_for x.window) (book_at s.books x.config.tracks) x.stored y.stored is.stored;
        batch = is.batch;
      }

  -- ---- a window of a host

  module _ (host : ℕ) (window : Span) where
    client_entered : (x y : ClientState) → IsClientLeft m left.window s.books x y → goes_back_on (Some left.window) host window y ≡ false
        → IsClientLeft m left.window s.books (in_host_window host window x) (in_host_window host window y)
    client_entered x y is forward =
        subst (λ (z : ClientState). IsClientLeft m left.window s.books (in_host_window host window x) (in_host_window host window z)) (sym is.is)
        (go (x.config.host == host) (subst (λ (z : ClientState). goes_back_on (Some left.window) host window z ≡ false) is.is forward))
      where
        go : (b : Bool) → (b && goes_back (option_or x.window (Some left.window)) window) ≡ false
            → IsClientLeft m left.window s.books (cond b (record x { window = Some window }) x) (cond b (record x { window = Some window; stored = y.stored }) (record x { stored = y.stored }))
        go false e = subst (λ (z : ClientState). IsClientLeft m left.window s.books x z) is.is is
        go true e = record {
          is = refl;
          stored =
              stored_later (m x.config.tracks) x.config.options.period (window_for left.window x) window (forward_until x.window left.window window e) (book_at s.books x.config.tracks) x.stored y.stored is.stored;
          batch = is.batch;
        }

    host_left : judged t (HostWindow host window) ≡ None → IsLeftOf m (changed s (HostWindow host window)) (changed t (HostWindow host window))
    host_left ok = record {
      window = left.window;
      in_force = left.in_force;
      still = left.still;
      paths = left.paths;
      chains = left.chains;
      books = left.books;
      rises = left.rises;
      rest = left.rest;
      clients =
          zip_mapped (IsClientLeft m left.window s.books) (λ y. goes_back_on (Some left.window) host window y ≡ false) (in_host_window host window) (in_host_window host window) client_entered s.clients t.clients left.clients
          (none_any (goes_back_on (Some left.window) host window) t.clients
          (ap (λ (o : Option Span). list_any (goes_back_on o host window) t.clients) (sym left.still) ∙ (passes (list_any (goes_back_on t.window host window) t.clients) WindowBack None ok).0));
      fit = left.fit;
    }

  not_back : (window : Span) → judged t (Window window) ≡ None → left.window.until ≤ window.until
  not_back window ok =
      let forward : goes_back (Some left.window) window ≡ false = (passes (goes_back (Some left.window) window) WindowBack None (ap (λ (o : Option Span). refused_if (goes_back o window) WindowBack None) (sym left.still) ∙ ok)).0 in
      until_forward left.window window forward

  -- ---- settlements

  open_is : (c : ClientState) (number : ℕ) (b : OpenBatch) → open_batch c number ≡ Some b → c.batch ≡ Some b
  open_is c number b e =
      let at = chained (λ (x : OpenBatch). cond (x.number == number) (Some x) None) c.batch b e in
      at.1 ∙ ap (λ x. Some x) (cond_some (at.0.number == number) at.0 b at.2).1

  batch_left : (client done : ℕ) (b : OpenBatch) → ((x : ClientState) → slice_get s.clients client ≡ Some x → x.batch ≡ Some b) → IsLeftOf m (after_settled s client done (Some b)) (after_settled t client done (Some b))
  batch_left client done b is_open = record {
    window = left.window;
    in_force = left.in_force;
    still = left.still;
    paths = messages_left (settled_messages b done) s.paths t.paths left.paths;
    chains = left.chains;
    books = left.books;
    rises = left.rises;
    rest = left.rest;
    clients = zip_changed (IsClientLeft m left.window s.books) (after_batch b done) (after_batch b done) s.clients t.clients client settled left.clients;
    fit =
        All-from_recursion (PathFits m s.books) (after_messages s.paths (settled_messages b done))
        (messages_fit m s.books (settled_messages b done) s.paths (recursion_from_All (PathFits m s.books) s.paths left.fit));
  }
    where
      settled : (x y : ClientState) → slice_get s.clients client ≡ Some x → slice_get t.clients client ≡ Some y → IsClientLeft m left.window s.books x y
          → IsClientLeft m left.window s.books (after_batch b done x) (after_batch b done y)
      settled x y at_x at_y is =
          batch_stored m left.window s.books x y is b done
          (subst (λ (o : Option OpenBatch). IfSome o (λ (k : OpenBatch). All (λ (u : Update). m x.config.tracks ≤ u.height) k.updates)) (is_open x at_x) is.batch)

  pub settled_left : (client number done : ℕ) → IsLeftOf m (changed s (Settled client number done)) (changed t (Settled client number done))
  settled_left client number done = go (pair_at (IsClientLeft m left.window s.books) s.clients t.clients client left.clients)
    where
      to : (o p : Option OpenBatch) → option_and_then (λ (c : ClientState). open_batch c number) (slice_get s.clients client) ≡ o → option_and_then (λ (c : ClientState). open_batch c number) (slice_get t.clients client) ≡ p
          → IsLeftOf m (after_settled s client done o) (after_settled t client done p) → IsLeftOf m (changed s (Settled client number done)) (changed t (Settled client number done))
      to o p e f is =
          subst (λ x. IsLeftOf m (after_settled s client done x) (changed t (Settled client number done))) (sym e)
          (subst (λ y. IsLeftOf m (after_settled s client done o) (after_settled t client done y)) (sym f) is)

      go : ((slice_get s.clients client ≡ None) × (slice_get t.clients client ≡ None)) ⊎ IsPair (IsClientLeft m left.window s.books) s.clients t.clients client
          → IsLeftOf m (changed s (Settled client number done)) (changed t (Settled client number done))
      go (inl none) =
          to None None (ap (option_and_then (λ (c : ClientState). open_batch c number)) none.0) (ap (option_and_then (λ (c : ClientState). open_batch c number)) none.1) left
      go (inr p) = by (open_batch p.first number) refl
        where
          in_s : option_and_then (λ (c : ClientState). open_batch c number) (slice_get s.clients client) ≡ open_batch p.first number
          in_s = ap (option_and_then (λ (c : ClientState). open_batch c number)) p.in_first

          in_t : option_and_then (λ (c : ClientState). open_batch c number) (slice_get t.clients client) ≡ open_batch p.first number
          in_t = ap (option_and_then (λ (c : ClientState). open_batch c number)) p.in_second ∙ ap (λ (c : ClientState). open_batch c number) p.related.is

          by : (o : Option OpenBatch) → open_batch p.first number ≡ o → IsLeftOf m (changed s (Settled client number done)) (changed t (Settled client number done))
          by None e = to None None (in_s ∙ e) (in_t ∙ e) left
          by (Some b) e =
              to (Some b) (Some b) (in_s ∙ e) (in_t ∙ e)
              (batch_left client done b (λ x at. ap (λ (k : ClientState). k.batch) (same_Some x p.first (sym at ∙ p.in_first)) ∙ open_is p.first number b e))

-- ---- events

-- a refusal of a light store is none, or for want of room
room : (x : Option BookError) → IsNamed x → if_not_full (option_and_then of_book x) ≡ None → if_room x ≡ None
room None named e = refl
room (Some book.UnknownSet) named e = absurd (cc)
room (Some book.WrongVerdictCount) named e = absurd (cc)
room (Some (book.BadVote index)) named e = absurd (cc)
room (Some (book.Conflict height)) named e = absurd (cc)
room (Some (book.TimeOrder height)) named e = absurd (cc)
room (Some book.Full) named e = refl
room (Some book.HashClash) named e = absurd (cc)
room (Some book.NoMemory) named e = absurd named

-- a set that isn't refused but for want of room is new, or was there
new_or_same : (b : Book) (set : List Member) → if_room (set_refusal b set) ≡ None → IsNewOrSame b set
new_or_same b set ok = go (set_of b (set_hash set)) refl
  where
    passes_test : (t : Bool) → if_room (unless t book.HashClash None) ≡ None → t ≡ true
    passes_test true e = refl
    passes_test false e = absurd (cc)

    go : (o : Option (List Member)) → set_of b (set_hash set) ≡ o → IsNewOrSame b set
    go None e = inl e
    go (Some x) e =
        let same : x ≡ set = (same_set-Decides x set).0 (passes_test (same_set x set) (ap (λ o. if_room (set_refusal_beside o b set)) (sym e) ∙ ok)) in
        inr (e ∙ ap Some same)

-- a packet that is accepted has no lower sequence than the first
sent_above : (t : Standing) (path sequence : ℕ) (block : Block) (timeout_height timeout_time : Option ℕ) (q : PathState) → judged t (Sent path sequence block timeout_height timeout_time) ≡ None → slice_get t.paths path ≡ Some q → q.first ≤ sequence
sent_above t path sequence block timeout_height timeout_time q ok at =
    let fits : sent_refusal (view_of_path t.books q) sequence ≡ None = ap (λ o. option_and_then (λ v. sent_refusal v sequence) (option_map (view_of_path t.books) o)) (sym at) ∙ ok in
    ltb-false sequence q.first (passes (nat_lt sequence q.first) OutOfOrder _ fits).0

module _ (m : ℕ → ℕ) (s t : Standing) (left : IsLeftOf m s t) (stays : StaysABook) where
  stored_event : (client height : ℕ) (r : Record) → IsSpared m s t (StoredSeen client height r) → freely s (StoredSeen client height r) ≡ None → judged t (StoredSeen client height r) ≡ None
      → IsLeftOf m (changed s (StoredSeen client height r)) (changed t (StoredSeen client height r))
  stored_event client height r spared in_s in_t =
      let chain = tracked s.clients client in
      let b = book_at s.books chain in
      let c = book_at t.books chain in
      let ok_b = room (record_refusal b height r) (record_named b height r) in_s in
      let ok_c = record_accepted c height r (ap (λ k. option_and_then of_book (record_refusal (book_at t.books k) height r)) (sym (tracked_same m s t left client)) ∙ in_t) in
      let one = any_book m s t left chain (after_record b height r) (after_record c height r) (takes_record (m chain) b height r spared.0)
      (record_kept (m chain) b c (left.books chain) height r spared.0 spared.1) (record_rises b (left.rises chain) height r ok_b) ((stays c (left.rest chain)).1 height r ok_c) in
      subst (λ k. IsLeftOf m (changed s (StoredSeen client height r)) (with_client (with_book t k (after_record (book_at t.books k) height r)) client (λ c. record c { stored = with_height height c.stored })))
      (sym (tracked_same m s t left client))
      (client_left m (with_book s chain (after_record b height r)) (with_book t chain (after_record c height r)) one client (λ c. record c { stored = with_height height c.stored })
      (λ x y at is. one_stored m one.window (set s.books chain (after_record b height r)) x y is height
      (subst (λ k. m k ≤ height) (ap (λ (o : Option ClientState). option_map_or (λ (k : ClientState). k.config.tracks) o 0) at) spared.0)))

  pub changed_left : (e : Event) → IsFromOutside e → IsEvent e → IsSpared m s t e → freely s e ≡ None → judged t e ≡ None → IsLeftOf m (changed s e) (changed t e)
  changed_left (Window window) from right spared in_s in_t = window_left m s t left window (not_back m s t left window in_t)
  changed_left (HostWindow host window) from right spared in_s in_t = host_left m s t left host window in_t
  changed_left (SetSeen chain x) from right spared in_s in_t =
      let b = book_at s.books chain in
      let c = book_at t.books chain in
      let ok_c = set_accepted c x in_t in
      any_book m s t left chain (after_set b x) (after_set c x) (takes_set (m chain) b x)
      (set_kept (m chain) b c (left.books chain) x (new_or_same b x (room (set_refusal b x) (set_named b x) in_s)) (new_or_same c x (ap if_room ok_c)))
      (subst (λ (rs : List RecordAt). Rises rs) (sym (same_records b x)) (left.rises chain)) ((stays c (left.rest chain)).0 x right ok_c)
  changed_left (HeaderSeen chain header) from right spared in_s in_t =
      let b = book_at s.books chain in
      let c = book_at t.books chain in
      let ok_b = room (header_refusal b header) (header_named b header) in_s in
      let ok_c = header_accepted c header in_t in
      any_book m s t left chain (after_header b header) (after_header c header) (takes_header (m chain) b header spared.0.0)
      (header_kept (m chain) b c (left.books chain) header spared.0.0 spared.1 spared.0.1) (header_rises b (left.rises chain) header ok_b) ((stays c (left.rest chain)).2 header ok_c)
  changed_left (StoredSeen client height r) from right spared in_s in_t = stored_event client height r spared in_s in_t
  changed_left (Asked client goal) from right spared in_s in_t =
      client_left m s t left client (λ c. record c { asked = Some goal }) (λ x y at is. record { is = ap (λ (k : ClientState). record k { asked = Some goal }) is.is; stored = is.stored; batch = is.batch })
  changed_left (Sent path sequence block timeout_height timeout_time) from right spared in_s in_t =
      path_left m s t left path (with_packet (new_packet sequence block timeout_height timeout_time))
      (λ p at fits. sent_fits m s.books (new_packet sequence block timeout_height timeout_time) p
      (subst (λ (o : Option PathState). IfSome o (λ (k : PathState). PacketFits (m k.config.source) (m k.config.destination) (book_at s.books k.config.destination) k.config.order (new_packet sequence block timeout_height timeout_time))) at spared.0) fits)
      (λ p q at_p at_q is. packet_left (new_packet sequence block timeout_height timeout_time) p q (sent_above t path sequence block timeout_height timeout_time q in_t at_q) is)
  changed_left (Received path sequence block) from right spared in_s in_t =
      path_left m s t left path (with_mark (λ q. record q { received = Some block }) sequence) (λ p at fits. received_fits m s.books block sequence p fits) (λ p q at_p at_q is. received_left block sequence p q is)
  changed_left (AckWritten path sequence block) from right spared in_s in_t =
      path_left m s t left path (with_mark (λ q. record q { written = Some block.height; written_time = block.time }) sequence)
      (λ p at fits. written_fits m s.books block sequence p
      (subst (λ (o : Option PathState). IfSome o (λ (k : PathState). (k.config.order ≡ Unordered) ⊎ (m k.config.destination ≤ block.height + 1))) at spared.0) fits)
      (λ p q at_p at_q is. written_left block sequence p q is)
  changed_left (Cleared path sequence) from right spared in_s in_t =
      path_left m s t left path (with_mark (λ q. record q { cleared = true }) sequence) (λ p at fits. cleared_fits m s.books sequence p fits) (λ p q at_p at_q is. cleared_left sequence p q is)
  changed_left (Closed path) from right spared in_s in_t = path_left m s t left path (λ p. record p { closed = true }) (λ p at fits. closed_fits m s.books p) (λ p q at_p at_q is. closed_left p q is)
  changed_left (Scanned path scan) from right spared in_s in_t = absurd from
  changed_left (Planned d) from right spared in_s in_t = absurd from
  changed_left (Settled client number done) from right spared in_s in_t = settled_left m s t left client number done
