-- Which heights are needed, and what is left where all below the least of them is forgotten (own choice).
use Rattle.std.specs.Prelude.{ℕ, ◌+◌, ◌-◌, ◌==◌, Bool, false, ◌||◌, nat_lt, nat_le, List, [], ◌∷◌, ◌++◌, length, map, filter, find, count_by, reverse, Option, Some, slice_get, if◌then◌else◌}
use Rattle.std.specs.List.{flat_map, list_all, list_any, enumerate_from}
use Rattle.std.specs.Option.{option_map, option_map_or, option_to_list}
use Rattle.rb_base.specs.Window.{Span}
use Rattle.rb_book.specs.Header.{Record}
use Rattle.rb_book.specs.Book.{Book, RecordAt, height_of, time_of, record_at, is_below}
use Rattle.rb_book.specs.Rest.{rest_of_book}
use Rattle.rb_scan.specs.Expiry.{has_come}
use Rattle.rb_scan.specs.Packet.{Packet, is_cleared, is_in_flight}
use Rattle.rb_scan.specs.declared.path.Order.{Order}
use Rattle.rb_scan.specs.declared.path.Order.TheVariants.{Ordered, Unordered}
use Rattle.rb_step.specs.LightClient.{Update}
use Rattle.rb_core_model.specs.Over.{gone_in, rest_of_path}
use Rattle.rb_core_model.specs.Standing.{OpenBatch, ClientState, PathState, Standing, book_at, window_for}

-- ---- what a client needs

abbrev pub is_live_in : Span → ℕ → Book → ℕ → Bool
is_live_in w period b h = option_map_or (λ (r : Record). nat_lt w.until (r.time + period)) (record_at b h) false

-- live stored heights, the greatest stored one, and the heights of the updates in the open batch, this being the common window
abbrev pub needs_of_client : Span → Book → ClientState → List ℕ
needs_of_client w b c =
    filter (is_live_in (window_for w c) c.config.options.period b) c.stored
    ++ (option_to_list (slice_get c.stored (length c.stored - 1))
    ++ option_map_or (λ (x : OpenBatch). map (λ (u : Update). u.height) x.updates) c.batch [])

-- ---- what a packet needs

-- the lowest height that proves its timeout by its time
abbrev pub lowest_late : Book → Option ℕ → Option ℕ
lowest_late b limit = option_map height_of (find (λ k. has_come limit (Some (time_of k))) b.records)

-- on its destination
abbrev pub needs_there : Book → Order → Packet → List ℕ
needs_there b Unordered q = if is_in_flight q then option_to_list (lowest_late b q.timeout_time) else []
needs_there b Ordered q =
    (if is_in_flight q then option_to_list (lowest_late b q.timeout_time) ++ option_to_list q.timeout_height else [])
    ++ (if is_cleared q then [] else option_to_list (option_map (λ (block : ℕ). block + 1) q.written))

-- on its source
abbrev pub needs_here : Order → Packet → List ℕ
needs_here Unordered q = []
needs_here Ordered q = if is_in_flight q then (q.sent + 1) ∷ [] else []

-- a closed path needs nothing
abbrev pub needs_of_path : List Book → ℕ → PathState → List ℕ
needs_of_path books chain p =
    if p.closed then []
    else (if p.config.source == chain then flat_map (needs_here p.config.order) p.packets else [])
    ++ (if p.config.destination == chain then flat_map (needs_there (book_at books chain) p.config.order) p.packets else [])

-- ---- the floor of a chain

-- what a client needs on a chain
abbrev pub needs_on : Span → List Book → ℕ → ClientState → List ℕ
needs_on w books chain c = if c.config.tracks == chain then needs_of_client w (book_at books chain) c else []

abbrev pub needs : Span → Standing → ℕ → List ℕ
needs w s chain = flat_map (needs_on w s.books chain) s.clients ++ flat_map (needs_of_path s.books chain) s.paths

-- the greatest height of a record at or below all of these; 0 where nothing is needed, or no record is so low: nothing goes then
abbrev pub lowest_of : List ℕ → List RecordAt → ℕ
lowest_of [] records = 0
lowest_of (n ∷ ns) records = option_map_or height_of (find (λ k. list_all (λ h. nat_le (height_of k) h) (n ∷ ns)) (reverse records)) 0

abbrev pub floor : Span → Standing → ℕ → ℕ
floor w s chain = lowest_of (needs w s chain) (book_at s.books chain).records

-- the floors of all chains, by their places; 0 before the first window
abbrev pub floors_of : Standing → List ℕ
floors_of s = map (λ (p : ℕ × Book). option_map_or (λ w. floor w s p.0) s.window 0) (enumerate_from 0 s.books)

-- ---- what is left

abbrev pub rest_of_books : (ℕ → ℕ) → ℕ → List Book → List Book
rest_of_books m n books = map (λ (p : ℕ × Book). rest_of_book (m p.0) p.1) (enumerate_from n books)

abbrev pub rest_of_client : (ℕ → ℕ) → ClientState → ClientState
rest_of_client m c = record c { stored = filter (λ h. nat_le (m c.config.tracks) h) c.stored }

-- what is left where all below a height of each chain is forgotten, and the packets at the front of each path that go
abbrev pub rest : (ℕ → ℕ) → Standing → Standing
rest m s = record s { books = rest_of_books m 0 s.books; clients = map (rest_of_client m) s.clients; paths = map rest_of_path s.paths }

-- what is left from the floors on; all before the first window
abbrev pub rest_at_floors : Standing → Standing
rest_at_floors s = option_map_or (λ w. rest (floor w s) s) s.window s

-- ---- whether it is worth while

-- so many records of a chain lie below its floor
abbrev pub has_many_below : ℕ → Span → Standing → ℕ × Book → Bool
has_many_below least w s (chain, b) = nat_le least (count_by (is_below (floor w s chain)) b.records)

-- so many packets of a path go
abbrev pub has_many_over : ℕ → PathState → Bool
has_many_over least p = nat_le least (gone_in p)

-- so many records of some chain do, or so many packets of some path go
abbrev pub has_many_to_forget : ℕ → Standing → Bool
has_many_to_forget least s =
    option_map_or (λ w. list_any (has_many_below least w s) (enumerate_from 0 s.books) || list_any (has_many_over least) s.paths) s.window false
