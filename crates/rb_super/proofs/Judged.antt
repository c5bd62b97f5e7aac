-- What is left judges an event as all would, if the event speaks of nothing that went and no light store is full.
use Rattle.std.proofs.Common.{◌≡◌, ℕ, ◌+◌, ◌<◌, ◌≤◌, ◌==◌, ◌⊎◌, ◌&&◌, ◌||◌, nat_lt, nat_le, Bool, true, false, List, [], ◌∷◌, length, drop, Option, Some, None, is_some, inl, inr, refl, sym, ap, ◌∙◌, subst, arith}
use Rattle.std.specs.List.{AllZip, find, list_any, slice_get}
use Rattle.std.specs.Option.{IfSome, option_map, option_map_or, option_and_then}
use Rattle.std.proofs.lemmas.Bool.{le-ltb, lt-ltb}
use Rattle.rb_base.specs.Window.{Span}
use Rattle.rb_valset.specs.Validator.{Member}
use Rattle.rb_valset.specs.ValidatorSet.{set_hash}
use Rattle.rb_valset.specs.Same.{same_set-Decides}
use Rattle.rb_book.specs.declared.error.BookError.{BookError}
use Rattle.rb_book.specs.declared.error.BookError.TheVariants as book
use Rattle.rb_book.specs.Book.{Book, set_of, address_count, max_sets, max_addresses}
use Rattle.rb_book.specs.Intake.{unless, set_refusal_beside, set_refusal, header_refusal, record_refusal}
use Rattle.rb_scan.specs.Owed.{packet_at, next_sequence}
use Rattle.rb_scan.specs.Packet.{Packet}
use Rattle.rb_scan.specs.Path.{Path}
use Rattle.rb_scan.specs.Orders.{same_order}
use Rattle.rb_scan.specs.declared.message.Kind.TheVariants.{Receive}
use Rattle.rb_scan.specs.declared.path.Order.{Order}
use Rattle.rb_scan.specs.declared.path.Order.TheVariants.{Ordered, Unordered}
use Rattle.rb_script_types.specs.Refusal.{of_book}
use Rattle.rb_script_types.specs.declared.refusal.Refusal.{Refusal}
use Rattle.rb_script_types.specs.declared.refusal.Refusal.TheVariants.{Full, Repeat, OutOfOrder, WindowBack}
use Rattle.rb_core_model.specs.Event.{Event, Window, HostWindow, Asked, SetSeen, HeaderSeen, StoredSeen, Sent, Received, AckWritten, Cleared, Closed, Scanned, Planned, Settled}
use Rattle.rb_core_model.specs.Over.{over_in, from_later}
use Rattle.rb_core_model.specs.Refusal.{refused_if}
use Rattle.rb_core_model.specs.Standing.{ClientState, PathState, Standing, book_at, tracked, view_of_path, path_view, goes_back, goes_back_on, max_packets, sent_refusal, received_refusal, written_refusal, cleared_refusal, settled_refusal, judged}
use Rattle.rb_super.specs.Free.{if_not_full}
use Rattle.rb_super.specs.Left.{IsBookLeft}
use Rattle.rb_super.specs.Remains.{IsClientLeft, IsLeftOf, IsPathLeft}
use Rattle.rb_super.specs.Spoken.{IsSetAgain, IsSpared, SparesSequence}
use Rattle.rb_core_model.proofs.Over.{counted_over, found_later, found_lower}
use Rattle.rb_super.proofs.Front.{next_later}
use Rattle.rb_super.proofs.Refusals.{if_room, IsSameFreely, record_refused, header_refused}
use Rattle.rb_super.proofs.Zips.{IsPair, pair_at}

no_room : (t : Bool) → if_room (unless t book.Full None) ≡ None
no_room true = refl
no_room false = refl

if_some : {X : Type 0} (P : X → Type 0) (o : Option X) (x : X) → o ≡ Some x → IfSome o P → P x
if_some P o x e p = subst (λ q. IfSome q P) e p

-- ---- sets

set_refused : (m : ℕ) (b c : Book) → IsBookLeft m b c → (set : List Member) → IsSetAgain b c set → IsSameFreely (set_refusal c set) (set_refusal b set)
set_refused m b c left set again = go (set_of c (set_hash set)) refl
  where
    known : (x : List Member) → set_of c (set_hash set) ≡ Some x → set_of b (set_hash set) ≡ Some x
    known x e = if_some (λ y. set_of b (set_hash set) ≡ Some y) (set_of c (set_hash set)) x e (left.sets (set_hash set))

    at_b : (o : Option (List Member)) → set_of b (set_hash set) ≡ o → if_room (set_refusal b set) ≡ if_room (set_refusal_beside o b set)
    at_b o e = ap (λ p. if_room (set_refusal_beside p b set)) e

    at_c : (o : Option (List Member)) → set_of c (set_hash set) ≡ o → if_room (set_refusal c set) ≡ if_room (set_refusal_beside o c set)
    at_c o e = ap (λ p. if_room (set_refusal_beside p c set)) e

    new : (set_of b (set_hash set) ≡ None) ⊎ (set_of b (set_hash set) ≡ Some set) → if_room (set_refusal b set) ≡ None
    new (inl none) = at_b None none ∙ no_room (nat_lt (length b.sets) max_sets && nat_le (address_count (set ∷ b.sets)) max_addresses)
    new (inr same) = at_b (Some set) same ∙ ap (λ t. if_room (unless t book.HashClash None)) ((same_set-Decides set set).1 refl)

    go : (o : Option (List Member)) → set_of c (set_hash set) ≡ o → if_room (set_refusal c set) ≡ if_room (set_refusal b set)
    go (Some x) e = at_c (Some x) e ∙ sym (at_b (Some x) (known x e))
    go None e = at_c None e ∙ no_room (nat_lt (length c.sets) max_sets && nat_le (address_count (set ∷ c.sets)) max_addresses) ∙ sym (new (again e))

-- ---- events

of_books : (x : Option BookError) → if_not_full (option_and_then of_book x) ≡ option_and_then of_book (if_room x)
of_books None = refl
of_books (Some book.UnknownSet) = refl
of_books (Some book.WrongVerdictCount) = refl
of_books (Some (book.BadVote index)) = refl
of_books (Some (book.Conflict height)) = refl
of_books (Some (book.TimeOrder height)) = refl
of_books (Some book.Full) = refl
of_books (Some book.HashClash) = refl
of_books (Some book.NoMemory) = refl

by_book : (after before : Option BookError) → IsSameFreely after before → if_not_full (option_and_then of_book after) ≡ if_not_full (option_and_then of_book before)
by_book after before same = of_books after ∙ ap (option_and_then of_book) same ∙ sym (of_books before)

-- ---- packets that didn't go

no_limit : (b : Bool) → if_not_full (refused_if b Full None) ≡ None
no_limit true = refl
no_limit false = refl

module _ (p : PathState) (n : ℕ) (le : n ≤ over_in p) (sequence : ℕ) (spared : (sequence < p.first) ⊎ (p.first + n ≤ sequence)) where
  pub packet_same : find (λ (q : Packet). q.sequence == sequence) (drop n p.packets) ≡ find (λ (q : Packet). q.sequence == sequence) p.packets
  packet_same = elim spared [
    | inl lower ↦ found_lower p.config.order p.first n p.packets sequence (counted_over p.config.order p.first n p.packets le) lower
    | inr higher ↦ found_later p.config.order p.first n p.packets sequence (counted_over p.config.order p.first n p.packets le) higher
  ]

module _ (before after : List Book) (p : PathState) (n : ℕ) (le : n ≤ over_in p) (sequence : ℕ) (spared : (sequence < p.first) ⊎ (p.first + n ≤ sequence)) where
  sent_same : if_not_full (sent_refusal (view_of_path after (from_later n p)) sequence) ≡ if_not_full (sent_refusal (view_of_path before p) sequence)
  sent_same = elim spared [
    | inl lower ↦
        ap (λ b. if_not_full (refused_if b OutOfOrder (refused_if (is_some (find (λ (q : Packet). q.sequence == sequence) (drop n p.packets))) Repeat (refused_if (nat_le max_packets (length (drop n p.packets))) Full None))))
        (lt-ltb sequence (p.first + n) (omega arith))
        ∙ sym (ap (λ b. if_not_full (refused_if b OutOfOrder (refused_if (is_some (find (λ (q : Packet). q.sequence == sequence) p.packets)) Repeat (refused_if (nat_le max_packets (length p.packets)) Full None))))
        (lt-ltb sequence p.first lower))
    | inr higher ↦
        ap (λ b. if_not_full (refused_if b OutOfOrder (refused_if (is_some (find (λ (q : Packet). q.sequence == sequence) (drop n p.packets))) Repeat (refused_if (nat_le max_packets (length (drop n p.packets))) Full None))))
        (le-ltb sequence (p.first + n) higher)
        ∙ by (find (λ (q : Packet). q.sequence == sequence) (drop n p.packets)) (find (λ (q : Packet). q.sequence == sequence) p.packets) (packet_same p n le sequence (inr higher))
        ∙ sym (ap (λ b. if_not_full (refused_if b OutOfOrder (refused_if (is_some (find (λ (q : Packet). q.sequence == sequence) p.packets)) Repeat (refused_if (nat_le max_packets (length p.packets)) Full None))))
        (le-ltb sequence p.first (omega arith)))
  ]
    where
      by_found : (b c d : Bool) → if_not_full (refused_if b Repeat (refused_if c Full None)) ≡ if_not_full (refused_if b Repeat (refused_if d Full None))
      by_found true c d = refl
      by_found false c d = no_limit c ∙ sym (no_limit d)

      by : (o r : Option Packet) → o ≡ r → if_not_full (refused_if (is_some o) Repeat (refused_if (nat_le max_packets (length (drop n p.packets))) Full None)) ≡ if_not_full (refused_if (is_some r) Repeat (refused_if (nat_le max_packets (length p.packets)) Full None))
      by o r same = ap (λ x. if_not_full (refused_if (is_some x) Repeat (refused_if (nat_le max_packets (length (drop n p.packets))) Full None))) same ∙ by_found (is_some r) (nat_le max_packets (length (drop n p.packets))) (nat_le max_packets (length p.packets))

  early_same : (order : Order) → p.config.order ≡ order → (same_order p.config.order Ordered && nat_lt (next_sequence (view_of_path after (from_later n p)) Receive) sequence) ≡ (same_order p.config.order Ordered && nat_lt (next_sequence (view_of_path before p) Receive) sequence)
  early_same Unordered is =
      ap (λ (order : Order). same_order order Ordered && nat_lt (next_sequence (view_of_path after (from_later n p)) Receive) sequence) is
      ∙ sym (ap (λ (order : Order). same_order order Ordered && nat_lt (next_sequence (view_of_path before p) Receive) sequence) is)
  early_same Ordered is =
      ap (λ k. same_order p.config.order Ordered && nat_lt k sequence) (sym (next_later (view_of_path before p) n (counted_over p.config.order p.first n p.packets le) is Receive))

  received_same : if_not_full (received_refusal (view_of_path after (from_later n p)) sequence (packet_at (view_of_path after (from_later n p)) sequence))
      ≡ if_not_full (received_refusal (view_of_path before p) sequence (packet_at (view_of_path before p) sequence))
  received_same =
      ap (λ o. if_not_full (received_refusal (view_of_path after (from_later n p)) sequence o)) (packet_same p n le sequence spared)
      ∙ by (find (λ (q : Packet). q.sequence == sequence) p.packets)
    where
      by : (o : Option Packet) → if_not_full (received_refusal (view_of_path after (from_later n p)) sequence o) ≡ if_not_full (received_refusal (view_of_path before p) sequence o)
      by None = refl
      by (Some q) = ap (λ b. if_not_full (refused_if b OutOfOrder (refused_if (is_some q.received) Repeat None))) (early_same p.config.order refl)

module _ (m : ℕ → ℕ) (s t : Standing) (left : IsLeftOf m s t) where
  pub tracked_same : (client : ℕ) → tracked t.clients client ≡ tracked s.clients client
  tracked_same client = go (pair_at (IsClientLeft m left.window s.books) s.clients t.clients client left.clients)
    where
      go : ((slice_get s.clients client ≡ None) × (slice_get t.clients client ≡ None)) ⊎ IsPair (IsClientLeft m left.window s.books) s.clients t.clients client
          → tracked t.clients client ≡ tracked s.clients client
      go (inl none) = ap (λ (o : Option ClientState). option_map_or (λ (c : ClientState). c.config.tracks) o 0) (none.1 ∙ sym none.0)
      go (inr p) =
          ap (λ (o : Option ClientState). option_map_or (λ (c : ClientState). c.config.tracks) o 0) p.in_second
          ∙ ap (λ (c : ClientState). c.config.tracks) p.related.is
          ∙ sym (ap (λ (o : Option ClientState). option_map_or (λ (c : ClientState). c.config.tracks) o 0) p.in_first)

  -- what is asked of each path, where it is the same of what is left of it
  on_path : (f : Path → Option Refusal) (path : ℕ)
      → ((p : PathState) (n : ℕ) → n ≤ over_in p → slice_get s.paths path ≡ Some p → slice_get t.paths path ≡ Some (from_later n p)
      → if_not_full (f (view_of_path t.books (from_later n p))) ≡ if_not_full (f (view_of_path s.books p)))
      → if_not_full (option_and_then f (path_view t path)) ≡ if_not_full (option_and_then f (path_view s path))
  on_path f path same = go (pair_at IsPathLeft s.paths t.paths path left.paths)
    where
      go : ((slice_get s.paths path ≡ None) × (slice_get t.paths path ≡ None)) ⊎ IsPair IsPathLeft s.paths t.paths path
          → if_not_full (option_and_then f (path_view t path)) ≡ if_not_full (option_and_then f (path_view s path))
      go (inl none) =
          ap (λ o. if_not_full (option_and_then f (option_map (view_of_path t.books) o))) none.1
          ∙ sym (ap (λ o. if_not_full (option_and_then f (option_map (view_of_path s.books) o))) none.0)
      go (inr x) =
          ap (λ o. if_not_full (option_and_then f (option_map (view_of_path t.books) o))) (x.in_second ∙ ap Some x.related.is)
          ∙ same x.first x.related.went x.related.over x.in_first (x.in_second ∙ ap Some x.related.is)
          ∙ sym (ap (λ o. if_not_full (option_and_then f (option_map (view_of_path s.books) o))) x.in_first)

  -- no packet of this sequence went
  spoken : (path sequence : ℕ) → SparesSequence s t path sequence → (p q : PathState) → slice_get s.paths path ≡ Some p → slice_get t.paths path ≡ Some q → (sequence < p.first) ⊎ (q.first ≤ sequence)
  spoken path sequence (inl lower) p q at_p at_q = inl (if_some (λ (x : PathState). sequence < x.first) (slice_get s.paths path) p at_p lower)
  spoken path sequence (inr higher) p q at_p at_q = inr (if_some (λ (x : PathState). x.first ≤ sequence) (slice_get t.paths path) q at_q higher)

  pub settled_same : (client number done : ℕ) → option_and_then (λ c. settled_refusal c number done) (slice_get t.clients client) ≡ option_and_then (λ c. settled_refusal c number done) (slice_get s.clients client)
  settled_same client number done = go (pair_at (IsClientLeft m left.window s.books) s.clients t.clients client left.clients)
    where
      go : ((slice_get s.clients client ≡ None) × (slice_get t.clients client ≡ None)) ⊎ IsPair (IsClientLeft m left.window s.books) s.clients t.clients client
          → option_and_then (λ c. settled_refusal c number done) (slice_get t.clients client) ≡ option_and_then (λ c. settled_refusal c number done) (slice_get s.clients client)
      go (inl none) = ap (option_and_then (λ c. settled_refusal c number done)) (none.1 ∙ sym none.0)
      go (inr p) =
          ap (option_and_then (λ c. settled_refusal c number done)) p.in_second
          ∙ ap (λ (c : ClientState). settled_refusal c number done) p.related.is
          ∙ sym (ap (option_and_then (λ c. settled_refusal c number done)) p.in_first)

  -- a host's window goes back of all where it does of what is left
  pub hosts_same : (common : Option Span) (host : ℕ) (window : Span) (cs ds : List ClientState) → AllZip (IsClientLeft m left.window s.books) cs ds
      → list_any (goes_back_on common host window) ds ≡ list_any (goes_back_on common host window) cs
  hosts_same common host window [] [] zip = refl
  hosts_same common host window [] (d ∷ ds) zip = absurd zip
  hosts_same common host window (c ∷ cs) [] zip = absurd zip
  hosts_same common host window (c ∷ cs) (d ∷ ds) zip = λ i. goes_back_on common host window (zip.0.is i) || hosts_same common host window cs ds zip.1 i

  pub judged_same : (e : Event) → IsSpared m s t e → if_not_full (judged t e) ≡ if_not_full (judged s e)
  judged_same (Window window) spared = ap (λ (o : Option Span). if_not_full (refused_if (goes_back o window) WindowBack None)) (left.still ∙ sym left.in_force)
  judged_same (HostWindow host window) spared =
      ap (λ (o : Option Span). if_not_full (refused_if (list_any (goes_back_on o host window) t.clients) WindowBack None)) (left.still ∙ sym left.in_force)
      ∙ ap (λ b. if_not_full (refused_if b WindowBack None)) (hosts_same s.window host window s.clients t.clients left.clients)
  judged_same (Asked client goal) spared = refl
  judged_same (SetSeen chain set) spared =
      by_book (set_refusal (book_at t.books chain) set) (set_refusal (book_at s.books chain) set)
      (set_refused (m chain) (book_at s.books chain) (book_at t.books chain) (left.books chain) set spared)
  judged_same (HeaderSeen chain header) spared =
      by_book (header_refusal (book_at t.books chain) header) (header_refusal (book_at s.books chain) header)
      (header_refused (m chain) (book_at s.books chain) (book_at t.books chain) (left.books chain) (left.rises chain) header spared.0.0 spared.1)
  judged_same (StoredSeen client height r) spared =
      ap (λ chain. if_not_full (option_and_then of_book (record_refusal (book_at t.books chain) height r))) (tracked_same client)
      ∙ by_book (record_refusal (book_at t.books (tracked s.clients client)) height r) (record_refusal (book_at s.books (tracked s.clients client)) height r)
      (record_refused (m (tracked s.clients client)) (book_at s.books (tracked s.clients client)) (book_at t.books (tracked s.clients client)) (left.books (tracked s.clients client))
      (left.rises (tracked s.clients client)) height r spared.0)
  judged_same (Sent path sequence block timeout_height timeout_time) spared =
      on_path (λ v. sent_refusal v sequence) path (λ p n le at_p at_q. sent_same s.books t.books p n le sequence (spoken path sequence spared.1 p (from_later n p) at_p at_q))
  judged_same (Received path sequence block) spared =
      on_path (λ v. received_refusal v sequence (packet_at v sequence)) path (λ p n le at_p at_q. received_same s.books t.books p n le sequence (spoken path sequence spared p (from_later n p) at_p at_q))
  judged_same (AckWritten path sequence block) spared =
      on_path (λ v. written_refusal block.height (packet_at v sequence)) path
      (λ p n le at_p at_q. ap (λ o. if_not_full (written_refusal block.height o)) (packet_same p n le sequence (spoken path sequence spared.1 p (from_later n p) at_p at_q)))
  judged_same (Cleared path sequence) spared =
      on_path (λ v. cleared_refusal (packet_at v sequence)) path
      (λ p n le at_p at_q. ap (λ o. if_not_full (cleared_refusal o)) (packet_same p n le sequence (spoken path sequence spared p (from_later n p) at_p at_q)))
  judged_same (Closed path) spared = on_path (λ (v : Path). refused_if v.closed Repeat None) path (λ p n le at_p at_q. refl)
  judged_same (Scanned path scan) spared = refl
  judged_same (Planned d) spared = refl
  judged_same (Settled client number done) spared = ap if_not_full (settled_same client number done)
