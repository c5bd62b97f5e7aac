-- Paths owe the same messages over what is left of light stores.
use Rattle.std.proofs.Common.{◌≡◌, ℕ, ◌+◌, ◌-◌, ◌<◌, ◌==◌, ◌⊎◌, Bool, true, false, not, ◌&&◌, ◌||◌, nat_le, List, [], ◌∷◌, ◌++◌, length, map, Option, Some, None, inl, inr, refl, sym, ap, ◌∙◌, subst, if◌then◌else◌}
use Rattle.std.specs.List.{All, AllByRecursion, cons_option, filter_map, find, slice_get}
use Rattle.std.specs.Option.{IfSome, IsSomeAnd, option_map, option_to_list, some_prefix}
use Rattle.std.proofs.lemmas.Bool.{lt-leb}
use Rattle.std.proofs.lemmas.List.{length-map, map-append}
use Rattle.std.proofs.lemmas.List.Elements.{All-from_recursion, recursion_from_All}
use Rattle.std.proofs.lemmas.Option.{slice_get-map}
use Rattle.rb_base.specs.declared.gate.Part.{Part}
use Rattle.rb_base.specs.declared.gate.Part.TheVariants.{Packets, Channel}
use Rattle.rb_book.specs.Book.{Book, RecordAt, height_of, time_of, heights_and_times_of}
use Rattle.rb_book.proofs.Lists.{found_holds}
use Rattle.rb_scan.specs.Expiry.{top, has_come, is_height_expired, is_time_expired, is_expired, lesser, timeout_floor}
use Rattle.rb_scan.specs.Owed.{floor_of, expires_for, since_for, timeout_for, message_of, packet_at, message_at, next_sequence, sequences_from, run, open_messages, messages, owed_part}
use Rattle.rb_scan.specs.Packet.{Packet, is_in_flight}
use Rattle.rb_scan.specs.Path.{Path}
use Rattle.rb_scan.specs.declared.message.Kind.{Kind}
use Rattle.rb_scan.specs.declared.message.Kind.TheVariants.{Receive, Acknowledge, Timeout}
use Rattle.rb_scan.specs.declared.path.Order.{Order}
use Rattle.rb_scan.specs.declared.path.Order.TheVariants.{Ordered, Unordered}
use Rattle.rb_super.specs.Left.{IsBookLeft}
use Rattle.rb_super.specs.Remains.{IsAfterGone, PacketFits}
use Rattle.rb_super.proofs.Last.{and_then_same, last_left, map_same}
use Rattle.rb_super.proofs.LeftLists.{find_behind, not_empty}

abbrev at_of : RecordAt → ℕ × ℕ
at_of k = (height_of k, time_of k)

all_front : {X : Type 0} (P : X → Type 0) (gone ys : List X) → AllByRecursion P (gone ++ ys) → AllByRecursion P gone
all_front P [] ys all = tt
all_front P (x ∷ gone) ys all = (all.0, all_front P gone ys all.1)

filter_map_same : {X Y : Type 0} (f g : X → Option Y) (xs : List X) → AllByRecursion (λ x. f x ≡ g x) xs → filter_map f xs ≡ filter_map g xs
filter_map_same f g [] all = refl
filter_map_same f g (x ∷ xs) all = λ i. cons_option (all.0 i) (filter_map_same f g xs all.1 i)

each : {X : Type 0} (P : X → Type 0) → ((x : X) → P x) → (xs : List X) → AllByRecursion P xs
each P f [] = tt
each P f (x ∷ xs) = (f x, each P f xs)

weaker : {X : Type 0} (P Q : X → Type 0) → ((x : X) → P x → Q x) → (xs : List X) → AllByRecursion P xs → AllByRecursion Q xs
weaker P Q f [] all = tt
weaker P Q f (x ∷ xs) all = (f x all.0, weaker P Q f xs all.1)

-- two facts on each of a list
both : {X : Type 0} (P Q R : X → Type 0) → ((x : X) → P x → Q x → R x) → (xs : List X) → AllByRecursion P xs → AllByRecursion Q xs → AllByRecursion R xs
both P Q R f [] a b = tt
both P Q R f (x ∷ xs) a b = (f x a.0 b.0, both P Q R f xs a.1 b.1)

mapped_all : {X Y : Type 0} (f : X → Y) (P : Y → Type 0) (xs : List X) → AllByRecursion (λ x. P (f x)) xs → AllByRecursion P (map f xs)
mapped_all f P [] all = tt
mapped_all f P (x ∷ xs) all = (all.0, mapped_all f P xs all.1)

-- ---- a destination

module _ (m : ℕ) (b c : Book) (left : IsBookLeft m b c) where
  abbrev before : List (ℕ × ℕ)
  before = heights_and_times_of b

  abbrev after : List (ℕ × ℕ)
  after = heights_and_times_of c

  last_record : slice_get b.records (length b.records - 1) ≡ slice_get c.records (length c.records - 1)
  last_record = go left.first
    where
      go : (left.records.gone ≡ []) ⊎ IsSomeAnd (slice_get c.records 0) (λ (k : RecordAt). height_of k ≡ m) → slice_get b.records (length b.records - 1) ≡ slice_get c.records (length c.records - 1)
      go (inl none) = ap (λ (xs : List RecordAt). slice_get xs (length xs - 1)) (left.records.parts ∙ ap (λ (xs : List RecordAt). xs ++ c.records) none)
      go (inr first) = last_left height_of m b.records c.records left.records (inr (not_empty c.records (λ k. height_of k ≡ m) first))

  top_of : (xs : List RecordAt) → top (map at_of xs) ≡ option_map at_of (slice_get xs (length xs - 1))
  top_of xs = slice_get-map at_of xs (length (map at_of xs) - 1) ∙ ap (λ n. option_map at_of (slice_get xs (n - 1))) (length-map xs at_of)

  top_same : top (map at_of b.records) ≡ top (map at_of c.records)
  top_same = top_of b.records ∙ ap (option_map at_of) last_record ∙ sym (top_of c.records)

  height_expired : (q : Packet) → is_height_expired (map at_of b.records) q ≡ is_height_expired (map at_of c.records) q
  height_expired q = ap (λ (o : Option (ℕ × ℕ)). has_come q.timeout_height (option_map (λ (r : ℕ × ℕ). r.0) o)) top_same

  time_expired : (q : Packet) → is_time_expired (map at_of b.records) q ≡ is_time_expired (map at_of c.records) q
  time_expired q = ap (λ (o : Option (ℕ × ℕ)). has_come q.timeout_time (option_map (λ (r : ℕ × ℕ). r.1) o)) top_same

  expired : (q : Packet) → is_expired (map at_of b.records) q ≡ is_expired (map at_of c.records) q
  expired q = λ i. height_expired q i || time_expired q i

  -- the lowest record that proves a timeout is left
  none_comes : (limit : Option ℕ) → IfSome limit (IsAfterGone m b) → AllByRecursion (λ (r : ℕ × ℕ). has_come limit (Some r.1) ≡ false) (map at_of left.records.gone)
  none_comes None fits = each (λ (r : ℕ × ℕ). has_come None (Some r.1) ≡ false) (λ r. refl) (map at_of left.records.gone)
  none_comes (Some limit) fits =
      mapped_all at_of (λ (r : ℕ × ℕ). nat_le limit r.1 ≡ false) left.records.gone
      (both (λ (k : RecordAt). height_of k < m) (λ (k : RecordAt). height_of k < m → time_of k < limit) (λ (k : RecordAt). nat_le limit (time_of k) ≡ false)
      (λ k low early. lt-leb limit (time_of k) (early low)) left.records.gone
      (recursion_from_All (λ (k : RecordAt). height_of k < m) left.records.gone left.records.below)
      (all_front (λ (k : RecordAt). height_of k < m → time_of k < limit) left.records.gone c.records
      (subst (AllByRecursion (λ (k : RecordAt). height_of k < m → time_of k < limit)) left.records.parts
      (recursion_from_All (λ (k : RecordAt). height_of k < m → time_of k < limit) b.records fits))))

  lowest : (limit : Option ℕ) → IfSome limit (IsAfterGone m b) → find (λ (r : ℕ × ℕ). has_come limit (Some r.1)) (map at_of b.records) ≡ find (λ (r : ℕ × ℕ). has_come limit (Some r.1)) (map at_of c.records)
  lowest limit fits =
      ap (λ (xs : List RecordAt). find (λ (r : ℕ × ℕ). has_come limit (Some r.1)) (map at_of xs)) left.records.parts
      ∙ ap (find (λ (r : ℕ × ℕ). has_come limit (Some r.1))) (map-append at_of left.records.gone c.records)
      ∙ find_behind (λ (r : ℕ × ℕ). has_come limit (Some r.1)) (map at_of left.records.gone) (map at_of c.records)
      (All-from_recursion (λ (r : ℕ × ℕ). has_come limit (Some r.1) ≡ false) (map at_of left.records.gone) (none_comes limit fits))

  timeout_same : (q : Packet) → IfSome q.timeout_time (IsAfterGone m b) → timeout_floor (map at_of b.records) q ≡ timeout_floor (map at_of c.records) q
  timeout_same q fits =
      λ i. lesser (if height_expired q i then q.timeout_height else None)
      (if time_expired q i then option_map (λ (r : ℕ × ℕ). r.0) (lowest q.timeout_time fits i) else None)

  floor_same : (source : ℕ) (order : Order) (kind : Kind) (q : Packet) → PacketFits source m b order q → floor_of (map at_of b.records) kind q ≡ floor_of (map at_of c.records) kind q
  floor_same source order Receive q fits = ap (λ e. if is_in_flight q && not e then Some (q.sent + 1) else None) (expired q)
  floor_same source order Acknowledge q fits = refl
  floor_same source order Timeout q fits = go fits.times_out
    where
      go : (is_in_flight q ≡ false) ⊎ IfSome q.timeout_time (IsAfterGone m b) → floor_of (map at_of b.records) Timeout q ≡ floor_of (map at_of c.records) Timeout q
      go (inl landed) =
          ap (λ f. if f && is_expired (map at_of b.records) q then timeout_floor (map at_of b.records) q else None) landed
          ∙ sym (ap (λ f. if f && is_expired (map at_of c.records) q then timeout_floor (map at_of c.records) q else None) landed)
      go (inr late) = λ i. if is_in_flight q && expired q i then timeout_same q late i else None

  pub message_same : (source : ℕ) (order : Order) (kind : Kind) (q : Packet) → PacketFits source m b order q → message_of (heights_and_times_of b) kind q ≡ message_of (heights_and_times_of c) kind q
  message_same source order kind q fits =
      ap (option_map (λ (floor : ℕ). record { kind = kind; sequence = q.sequence; floor = floor; expires = expires_for kind q; since = since_for kind q; timeout = timeout_for kind q })) (floor_same source order kind q fits)

-- ---- a path over two lists of records

module _ (v : Path) (after : List (ℕ × ℕ)) (Fits : Packet → Type 0) (same : (kind : Kind) (q : Packet) → Fits q → message_of v.destination kind q ≡ message_of after kind q) where
  at_sequence : (kind : Kind) → All Fits v.packets → (s : ℕ) → message_at v kind s ≡ message_at (record v { destination = after }) kind s
  at_sequence kind all s =
      and_then_same (packet_at v s) (packet_at v s) (message_of v.destination kind) (message_of after kind) refl
      (λ q e. same kind q (found_holds Fits (λ (p : Packet). p.sequence == s) v.packets q all e))

  in_run : (kind : Kind) → All Fits v.packets → run v kind ≡ run (record v { destination = after }) kind
  in_run kind all =
      ap some_prefix
      (map_same (message_at v kind) (message_at (record v { destination = after }) kind) (sequences_from v (next_sequence v kind))
      (each (λ s. message_at v kind s ≡ message_at (record v { destination = after }) kind s) (at_sequence kind all) (sequences_from v (next_sequence v kind))))

  by_order : (order : Order) (kind : Kind) → All Fits v.packets → open_messages order v kind ≡ open_messages order (record v { destination = after }) kind
  by_order Unordered kind all =
      filter_map_same (message_of v.destination kind) (message_of after kind) v.packets
      (weaker Fits (λ q. message_of v.destination kind q ≡ message_of after kind q) (same kind) v.packets (recursion_from_All Fits v.packets all))
  by_order Ordered Receive all = in_run Receive all
  by_order Ordered Acknowledge all = in_run Acknowledge all
  by_order Ordered Timeout all = ap option_to_list (at_sequence Timeout all (next_sequence v Timeout))

  owed_kind : (kind : Kind) → (v.closed ≡ true) ⊎ All Fits v.packets → messages v kind ≡ messages (record v { destination = after }) kind
  owed_kind kind (inl closed) =
      ap (λ (b : Bool). if b then [] else open_messages v.order v kind) closed
      ∙ sym (ap (λ (b : Bool). if b then [] else open_messages v.order (record v { destination = after }) kind) closed)
  owed_kind kind (inr all) = ap (λ ms. if v.closed then [] else ms) (by_order v.order kind all)

  pub owed_same : (part : Part) → (v.closed ≡ true) ⊎ All Fits v.packets → owed_part v part ≡ owed_part (record v { destination = after }) part
  owed_same Packets fits = owed_kind Receive fits
  owed_same Channel fits = λ i. owed_kind Acknowledge fits i ++ owed_kind Timeout fits i
