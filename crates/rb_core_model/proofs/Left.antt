-- What is left at the floors stays sound: no update of an open batch lies below the floor of its chain.
use Rattle.std.proofs.Common.{◌≡◌, ℕ, zero, suc, ◌+◌, ◌-◌, ◌≤◌, ◌<◌, Bool, true, false, cond, nat_le, List, [], ◌∷◌, ◌++◌, length, map, reverse, Option, Some, None, IsSome, refl, sym, ap, ◌∙◌, subst, arith, if◌then◌else◌}
use Rattle.std.specs.List.{AllByRecursion, filter, find, flat_map, list_all, slice_get}
use Rattle.std.specs.Option.{option_map_or, option_and_then, option_to_list}
use Rattle.std.proofs.lemmas.Bool.{and_parts, eq-eqb, leb-true, false≢true}
use Rattle.std.proofs.lemmas.List.Kept.{IsStrictlyIncreasing-filter}
use Rattle.rb_base.specs.Window.{Span}
use Rattle.rb_book.specs.Header.{Record}
use Rattle.rb_book.specs.Book.{Book, RecordAt, height_of, record_at}
use Rattle.rb_book.specs.Invariant.{IsBook}
use Rattle.rb_book.specs.Rest.{rest_of_book}
use Rattle.rb_book.proofs.Lists.{found_passes}
use Rattle.rb_book.proofs.Resting.{record_stays, rest_is_book}
use Rattle.rb_step.specs.LightClient.{Update}
use Rattle.rb_core_model.specs.Forgetting.{is_live_in, needs_of_client, needs_of_path, needs_on, needs, lowest_of, floor, rest_of_books, rest_of_client, rest, rest_at_floors}
use Rattle.rb_core_model.specs.Over.{rest_of_path}
use Rattle.rb_core_model.specs.Standing.{OpenBatch, ClientState, PathState, Standing, window_for, book_at, batch_open}
use Rattle.rb_core_model.proofs.Paths.{IsSoundPath, rest_of_sound}
use Rattle.rb_core_model.proofs.Sound.{IsRecorded, IsSoundClient, IsSound, book_sound}

-- ---- the floor is below what open batches need

front : {X : Type 0} (P : X → Type 0) (xs ys : List X) → AllByRecursion P (xs ++ ys) → AllByRecursion P xs
front P [] ys all = tt
front P (x ∷ xs) ys all = (all.0, front P xs ys all.1)

behind : {X : Type 0} (P : X → Type 0) (xs ys : List X) → AllByRecursion P (xs ++ ys) → AllByRecursion P ys
behind P [] ys all = all
behind P (x ∷ xs) ys all = behind P xs ys all.1

of_each : {X : Type 0} (P : ℕ → Type 0) (f : X → List ℕ) (xs : List X) → AllByRecursion P (flat_map f xs) → AllByRecursion (λ x. AllByRecursion P (f x)) xs
of_each P f [] all = tt
of_each P f (x ∷ xs) all = (front P (f x) (flat_map f xs) all, of_each P f xs (behind P (f x) (flat_map f xs) all))

all_listed : (k : ℕ) (ns : List ℕ) → list_all (λ h. nat_le k h) ns ≡ true → AllByRecursion (λ h. k ≤ h) ns
all_listed k [] e = tt
all_listed k (n ∷ ns) e = (let parts = and_parts (nat_le k n) (list_all (λ h. nat_le k h) ns) e in (leb-true k n parts.0, all_listed k ns parts.1))

none_below : (ns : List ℕ) → AllByRecursion (λ h. 0 ≤ h) ns
none_below [] = tt
none_below (n ∷ ns) = (omega arith, none_below ns)

low : (ns : List ℕ) (records : List RecordAt) → AllByRecursion (λ h. lowest_of ns records ≤ h) ns
low [] records = tt
low (n ∷ ns) records = go (find (λ k. list_all (λ h. nat_le (height_of k) h) (n ∷ ns)) (reverse records)) refl
  where
    go : (o : Option RecordAt) → find (λ k. list_all (λ h. nat_le (height_of k) h) (n ∷ ns)) (reverse records) ≡ o → AllByRecursion (λ h. option_map_or height_of o 0 ≤ h) (n ∷ ns)
    go None e = none_below (n ∷ ns)
    go (Some k) e = all_listed (height_of k) (n ∷ ns) (found_passes (λ j. list_all (λ h. nat_le (height_of j) h) (n ∷ ns)) (reverse records) k e)

-- the heights that the updates of a client's open batch store aren't below a height
abbrev pub NeedNoLower : ℕ → ClientState → Type 0
NeedNoLower m c = (b : OpenBatch) → c.batch ≡ Some b → AllByRecursion (λ (u : Update). m ≤ u.height) b.updates

of_heights : (m : ℕ) (us : List Update) → AllByRecursion (λ h. m ≤ h) (map (λ (u : Update). u.height) us) → AllByRecursion (λ (u : Update). m ≤ u.height) us
of_heights m [] all = tt
of_heights m (u ∷ us) all = (all.0, of_heights m us all.1)

of_batch : (w : Span) (m : ℕ) (b : Book) (c : ClientState) → AllByRecursion (λ h. m ≤ h) (needs_of_client w b c) → NeedNoLower m c
of_batch w m b c all x e =
    let newest : List ℕ = option_to_list (slice_get c.stored (length c.stored - 1)) in
    let live : List ℕ = filter (is_live_in (window_for w c) c.config.options.period b) c.stored in
    let sent : List ℕ = option_map_or (λ (y : OpenBatch). map (λ (u : Update). u.height) y.updates) c.batch [] in
    of_heights m x.updates
    (subst (λ (o : Option OpenBatch). AllByRecursion (λ h. m ≤ h) (option_map_or (λ (y : OpenBatch). map (λ (u : Update). u.height) y.updates) o [])) e
    (behind (λ h. m ≤ h) newest sent (behind (λ h. m ≤ h) live (newest ++ sent) all)))

-- the floors are such for each client
pub clients_need : (w : Span) (s : Standing) (cs : List ClientState) → ((chain : ℕ) → AllByRecursion (λ c. AllByRecursion (λ h. floor w s chain ≤ h) (needs_on w s.books chain c)) cs)
    → AllByRecursion (λ (c : ClientState). NeedNoLower (floor w s c.config.tracks) c) cs
clients_need w s [] all = tt
clients_need w s (c ∷ cs) all = (
  of_batch w (floor w s c.config.tracks) (book_at s.books c.config.tracks) c
      (subst (λ b. AllByRecursion (λ h. floor w s c.config.tracks ≤ h) (if b then needs_of_client w (book_at s.books c.config.tracks) c else [])) (eq-eqb c.config.tracks c.config.tracks refl) (all c.config.tracks).0),
  clients_need w s cs (λ chain. (all chain).1),
)

pub floors_below : (w : Span) (s : Standing) → AllByRecursion (λ (c : ClientState). NeedNoLower (floor w s c.config.tracks) c) s.clients
floors_below w s =
    clients_need w s s.clients
    (λ chain. of_each (λ h. floor w s chain ≤ h) (needs_on w s.books chain) s.clients
    (front (λ h. floor w s chain ≤ h) (flat_map (needs_on w s.books chain) s.clients) (flat_map (needs_of_path s.books chain) s.paths) (low (needs w s chain) (book_at s.books chain).records)))

-- ---- what is left from heights on is sound

pub length-rest : (m : ℕ → ℕ) (n : ℕ) (books : List Book) → length (rest_of_books m n books) ≡ length books
length-rest m n [] = refl
length-rest m n (b ∷ books) = ap suc (length-rest m (n + 1) books)

pub book-rest : (m : ℕ → ℕ) (n : ℕ) (books : List Book) (chain : ℕ) → book_at (rest_of_books m n books) chain ≡ rest_of_book (m (n + chain)) (book_at books chain)
book-rest m n [] chain = refl
book-rest m n (b ∷ books) zero = (let e : n ≡ n + 0 = omega arith in ap (λ k. rest_of_book (m k) b) e)
book-rest m n (b ∷ books) (suc chain) = (let e : n + 1 + chain ≡ n + suc chain = omega arith in book-rest m (n + 1) books chain ∙ ap (λ k. rest_of_book (m k) (book_at books chain)) e)

first : (n : ℕ) → 0 + n ≡ n
first n = omega arith

all_books : (m : ℕ → ℕ) (n : ℕ) (books : List Book) → AllByRecursion IsBook books → AllByRecursion IsBook (rest_of_books m n books)
all_books m n [] all = tt
all_books m n (b ∷ books) all = (rest_is_book (m n) b all.0, all_books m (n + 1) books all.1)

some_is : (o : Option Record) → IsSome o → (r : Record) × (o ≡ Some r)
some_is None p = absurd (false≢true p)
some_is (Some r) p = (r, refl)

from_height : (P Q : ℕ → Type 0) (m : ℕ) → ((h : ℕ) → m ≤ h → P h → Q h) → (xs : List ℕ) → AllByRecursion P xs → AllByRecursion Q (filter (λ h. nat_le m h) xs)
from_height P Q m f [] all = tt
from_height P Q m f (x ∷ xs) all = go (nat_le m x) refl (from_height P Q m f xs all.1)
  where
    go : (b : Bool) → nat_le m x ≡ b → AllByRecursion Q (filter (λ h. nat_le m h) xs) → AllByRecursion Q (cond b (x ∷ filter (λ h. nat_le m h) xs) (filter (λ h. nat_le m h) xs))
    go true e rest = (f x (leb-true m x e) all.0, rest)
    go false e rest = rest

updates_from : (P Q : ℕ → Type 0) (m : ℕ) → ((h : ℕ) → m ≤ h → P h → Q h) → (us : List Update) → AllByRecursion (λ (u : Update). m ≤ u.height) us → AllByRecursion (λ (u : Update). P u.height) us
    → AllByRecursion (λ (u : Update). Q u.height) us
updates_from P Q m f [] high all = tt
updates_from P Q m f (u ∷ us) high all = (f u.height high.0 all.0, updates_from P Q m f us high.1 all.1)

pub all_mapped : {X : Type 0} (P : X → Type 0) (f : X → X) → ((x : X) → P x → P (f x)) → (xs : List X) → AllByRecursion P xs → AllByRecursion P (map f xs)
all_mapped P f each [] all = tt
all_mapped P f each (x ∷ xs) all = (each x all.0, all_mapped P f each xs all.1)

module _ (m : ℕ → ℕ) (s : Standing) (sound : IsSound s) where
  recorded : (chain h : ℕ) → m chain ≤ h → IsRecorded (book_at s.books chain) h → IsRecorded (book_at (rest_of_books m 0 s.books) chain) h
  recorded chain h le is =
      let r = some_is (record_at (book_at s.books chain) h) is in
      let stays = record_stays (m chain) (book_at s.books chain) (book_sound s.books chain sound.books) h r.0 le r.1 in
      let there : book_at (rest_of_books m 0 s.books) chain ≡ rest_of_book (m chain) (book_at s.books chain) = book-rest m 0 s.books chain ∙ ap (λ k. rest_of_book (m k) (book_at s.books chain)) (first chain) in
      subst (λ (o : Option Record). IsSome o) (sym (ap (λ b. record_at b h) there ∙ stays)) refl

  client_left : (c : ClientState) → NeedNoLower (m c.config.tracks) c → IsSoundClient s.books c → IsSoundClient (rest_of_books m 0 s.books) (rest_of_client m c)
  client_left c needs is = record {
    tracks = subst (λ n. c.config.tracks < n) (sym (length-rest m 0 s.books)) is.tracks;
    window = is.window;
    fees = is.fees;
    rising = IsStrictlyIncreasing-filter (λ h. nat_le (m c.config.tracks) h) c.stored is.rising;
    recorded =
        from_height (IsRecorded (book_at s.books c.config.tracks)) (IsRecorded (book_at (rest_of_books m 0 s.books) c.config.tracks)) (m c.config.tracks) (recorded c.config.tracks) c.stored is.recorded;
    updates = λ b e.
        updates_from (IsRecorded (book_at s.books c.config.tracks)) (IsRecorded (book_at (rest_of_books m 0 s.books) c.config.tracks)) (m c.config.tracks) (recorded c.config.tracks) b.updates (needs b e) (is.updates b e);
    apart = is.apart;
  }

  clients_left : (cs : List ClientState) → AllByRecursion (λ (c : ClientState). NeedNoLower (m c.config.tracks) c) cs → AllByRecursion (IsSoundClient s.books) cs
      → AllByRecursion (IsSoundClient (rest_of_books m 0 s.books)) (map (rest_of_client m) cs)
  clients_left [] needs all = tt
  clients_left (c ∷ cs) needs all = (client_left c needs.0 all.0, clients_left cs needs.1 all.1)

  pub rest_sound : AllByRecursion (λ (c : ClientState). NeedNoLower (m c.config.tracks) c) s.clients → IsSound (rest m s)
  rest_sound needs = record {
    window = sound.window;
    books = all_books m 0 s.books sound.books;
    clients = clients_left s.clients needs sound.clients;
    paths = all_mapped IsSoundPath rest_of_path rest_of_sound s.paths sound.paths;
  }

-- ---- at the floors

-- a fact of what is left from the floors on holds of what is left at them
at_floors : (P : Standing → Type 0) (s : Standing) → P s → ((w : Span) → s.window ≡ Some w → P (rest (floor w s) s)) → P (rest_at_floors s)
at_floors P s all some = go s.window refl
  where
    go : (o : Option Span) → s.window ≡ o → P (option_map_or (λ w. rest (floor w s) s) o s)
    go None e = all
    go (Some w) e = some w e

pub left_sound : (s : Standing) → IsSound s → IsSound (rest_at_floors s)
left_sound s sound = at_floors IsSound s sound (λ w e. rest_sound (floor w s) s sound (floors_below w s))

-- what is left has the same clients but for what they have stored
batch_rest : (m : ℕ → ℕ) (cs : List ClientState) (client : ℕ) → option_and_then (λ (c : ClientState). c.batch) (slice_get (map (rest_of_client m) cs) client) ≡ option_and_then (λ (c : ClientState). c.batch) (slice_get cs client)
batch_rest m [] client = refl
batch_rest m (c ∷ cs) zero = refl
batch_rest m (c ∷ cs) (suc client) = batch_rest m cs client

-- its paths are as before, or without what is over
pub left_paths : (P : List PathState → Type 0) (s : Standing) → P s.paths → P (map rest_of_path s.paths) → P (rest_at_floors s).paths
left_paths P s all some = at_floors (λ t. P t.paths) s all (λ w e. some)

pub path_configs_same : (ps : List PathState) → map (λ (p : PathState). p.config) (map rest_of_path ps) ≡ map (λ (p : PathState). p.config) ps
path_configs_same [] = refl
path_configs_same (p ∷ ps) = ap (λ cs. p.config ∷ cs) (path_configs_same ps)

pub left_batches : (s : Standing) (client : ℕ) → batch_open (rest_at_floors s) client ≡ batch_open s client
left_batches s client = at_floors (λ t. batch_open t client ≡ batch_open s client) s refl (λ w e. batch_rest (floor w s) s.clients client)

clients_same : {X : Type 0} (f : ClientState → X) → ((m : ℕ → ℕ) (c : ClientState) → f (rest_of_client m c) ≡ f c) → (m : ℕ → ℕ) (cs : List ClientState) → map f (map (rest_of_client m) cs) ≡ map f cs
clients_same f same m [] = refl
clients_same f same m (c ∷ cs) = λ i. same m c i ∷ clients_same f same m cs i

-- what is said of each client but what it has stored
pub left_clients : {X : Type 0} (f : ClientState → X) → ((m : ℕ → ℕ) (c : ClientState) → f (rest_of_client m c) ≡ f c) → (s : Standing) → map f (rest_at_floors s).clients ≡ map f s.clients
left_clients f same s = at_floors (λ t. map f t.clients ≡ map f s.clients) s refl (λ w e. clients_same f same (floor w s) s.clients)

pub left_books : (s : Standing) → length (rest_at_floors s).books ≡ length s.books
left_books s = at_floors (λ t. length t.books ≡ length s.books) s refl (λ w e. length-rest (floor w s) 0 s.books)
