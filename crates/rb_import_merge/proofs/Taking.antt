-- Which packets are taken, and what they have.
use Rattle.std.proofs.Common.{◌≡◌, ℕ, ◌+◌, ◌<◌, ◌==◌, ◌&&◌, ◌||◌, nat_le, nat_cmp, Less, not, List, [], ◌∷◌, ◌++◌, length, get_or, map, filter, take, Option, Some, None, Bool, true, false, cond, if◌then◌else◌, refl, sym, subst, ap, ◌∙◌, All, arith, eq-eqb}
use Rattle.std.specs.Prelude.{Any, Contains, IfSome, is_some}
use Rattle.std.specs.List.{flat_map}
use Rattle.std.specs.List.Sorted.{IsPermutation, IsStrictlyIncreasing, IsStrictlySortedBy}
use Rattle.std.specs.Ordering.{ordering_then}
use Rattle.std.proofs.lemmas.Bool.{and_parts, true≢false}
use Rattle.std.proofs.lemmas.List.{map_push}
use Rattle.std.proofs.lemmas.List.Elements.{All-contains, All-filter, Contains-append_left, Contains-append_right, Contains-get_or, filter_agree, filter_more}
use Rattle.std.proofs.lemmas.List.Kept.{IsStrictlySortedBy-filter}
use Rattle.std.proofs.lemmas.List.Sorted.{All-permutation}
use Rattle.std.proofs.lemmas.Map.Keys.{IsDistinct-IsPermutation, Less-from_sorted}
use Rattle.std.proofs.lemmas.Option.{none-some}
use Rattle.rb_scan.specs.declared.path.Order.{Order}
use Rattle.rb_import_answers.specs.declared.packets.PacketEvent.{PacketEvent}
use Rattle.rb_import_answers.specs.declared.packets.PacketKind.{PacketKind}
use Rattle.rb_import_answers.specs.declared.pending.Pending.{Pending}
use Rattle.rb_import_answers.specs.declared.pending.Pending.TheVariants as states
use Rattle.rb_import_setup.specs.declared.setup.PathSetup.{PathSetup}
use Rattle.rb_import_check.specs.declared.saved.Saved.{Saved}
use Rattle.rb_import_merge.specs.declared.left_out.LeftOutPacket.{LeftOutPacket}
use Rattle.rb_import_merge.specs.declared.left_out.PacketLack.{PacketLack}
use Rattle.rb_import_merge.specs.declared.packets.SeenPacket.{SeenPacket}
use Rattle.rb_import_merge.specs.declared.surplus.Surplus.{Surplus}
use Rattle.rb_import_merge.specs.Committed.{HasEvents, HaveCommitted, WasSeen}
use Rattle.rb_import_merge.specs.LeftOut.{AreLeftOut, HasSurplus, HaveTaken, IsSentOn, has_room, is_left_out, is_sent, is_told_received, lack, leaves_out, left_out_by, sent_in, sequences_of, surplus_of, takes, was_told}
use Rattle.rb_import_merge.specs.Lowest.{packet_cmp}
use Rattle.rb_import_merge.specs.Packets.{HaveEvents, HaveEventsOf, StandsFor, are_of_one, counts_as, place_of, wanted_of}
use Rattle.rb_import_merge.specs.Pending.{committed, committed_in, if_told, is_commitments, is_unreceived, lack_last_page, lacks_receipt, pending_in, tell_commitments, tell_unreceived, tells_commitments, told_in}
use Rattle.rb_import_merge.specs.Ways.{HasBefore, before}
use Rattle.rb_import_merge.proofs.Among.{any_at, from_filter, from_map, in_filter, in_flat, in_map, le_true}
use Rattle.rb_import_merge.proofs.Lowering.{distinct}
use Rattle.rb_import_merge.proofs.Rising.{increasing_from}
use Rattle.rb_import_merge.proofs.Seeing.{any_among, flips}
use Rattle.rb_import_merge.proofs.Telling.{told_event}

-- ---- events that a test of their sequences leaves

all_from : {X : Type 0} (P : X → Type 0) (xs : List X) → ((x : X) → Contains xs x → P x) → All P xs
all_from P xs each = λ k d small. each (get_or xs k d) (Contains-get_or xs k d small)

pub have_filtered : (t : ℕ → Bool) (events : List PacketEvent) (packets : List SeenPacket) → IsStrictlySortedBy packet_cmp packets → HaveEventsOf events packets
    → HaveEventsOf (filter (λ (e : PacketEvent). t e.sequence) events) (filter (λ (p : SeenPacket). t p.event.now.sequence) packets)
have_filtered t events packets up have = (
  all_from (λ (p : SeenPacket). Contains (filter (λ (e : PacketEvent). t e.sequence) events) p.event.now) (filter (λ (p : SeenPacket). t p.event.now.sequence) packets) (λ p among.
      let (there, passes) = from_filter (λ (q : SeenPacket). t q.event.now.sequence) packets p among in
      in_filter (λ (e : PacketEvent). t e.sequence) events p.event.now (All-contains (λ (q : SeenPacket). Contains events q.event.now) packets p have.0 there) passes),
  all_from (λ e. Any (StandsFor e) (filter (λ (p : SeenPacket). t p.event.now.sequence) packets)) (filter (λ (e : PacketEvent). t e.sequence) events) (λ e among.
      let (there, passes) = from_filter (λ (f : PacketEvent). t f.sequence) events e among in
      let (j, p, within, at, stands) = All-contains (λ f. Any (StandsFor f) packets) events e have.1 there in
      let (i, less, is) = in_filter (λ (q : SeenPacket). t q.event.now.sequence) packets p (j, within, at) (ap t stands.1 ∙ passes) in
      (i, p, less, is, stands)),
  distinct (filter (λ (p : SeenPacket). t p.event.now.sequence) packets) (IsStrictlySortedBy-filter packet_cmp (λ (p : SeenPacket). t p.event.now.sequence) packets up),
)

pub have_permuted : (events : List PacketEvent) (xs ys : List SeenPacket) → IsPermutation xs ys → HaveEventsOf events xs → HaveEventsOf events ys
have_permuted events xs ys same have = (
  All-permutation (λ (p : SeenPacket). Contains events p.event.now) xs ys same have.0,
  (λ k d small. any_among (StandsFor (get_or events k d)) xs ys same (have.1 k d small)),
  IsDistinct-IsPermutation are_of_one flips xs ys same have.2,
)

both_at : {X : Type 0} (p q : X → Bool) (x : X) (xs : List X) (a b : Bool) → q x ≡ b → filter q (filter p xs) ≡ filter (λ y. p y && q y) xs
    → filter q (cond a (x ∷ filter p xs) (filter p xs)) ≡ cond (a && b) (x ∷ filter (λ y. p y && q y) xs) (filter (λ y. p y && q y) xs)
both_at p q x xs true true is rest = ap (λ c. cond c (x ∷ filter q (filter p xs)) (filter q (filter p xs))) is ∙ ap (λ l. x ∷ l) rest
both_at p q x xs true false is rest = ap (λ c. cond c (x ∷ filter q (filter p xs)) (filter q (filter p xs))) is ∙ rest
both_at p q x xs false b is rest = rest

pub filter_both : {X : Type 0} (p q : X → Bool) (xs : List X) → filter q (filter p xs) ≡ filter (λ x. p x && q x) xs
filter_both p q [] = refl
filter_both p q (x ∷ xs) = both_at p q x xs (p x) (q x) refl (filter_both p q xs)

-- ---- packets that were sent

sent_is : (k : PacketKind) → counts_as k PacketKind.Sent ≡ true → k ≡ PacketKind.Sent
sent_is PacketKind.Sent e = refl
sent_is PacketKind.Received e = absurd (true≢false (sym e))
sent_is PacketKind.AckWritten e = absurd (true≢false (sym e))
sent_is PacketKind.Cleared e = absurd (true≢false (sym e))
sent_is PacketKind.TimedOut e = absurd (true≢false (sym e))

-- of packets of one kind the sequences rise
by_sequence : (a b : PacketKind) (m n : ℕ) → a ≡ PacketKind.Sent → b ≡ PacketKind.Sent → ordering_then (nat_cmp (place_of a) (place_of b)) (nat_cmp m n) ≡ Less → nat_cmp m n ≡ Less
by_sequence a b m n first second e =
    subst (λ k. ordering_then (nat_cmp (place_of k) (place_of PacketKind.Sent)) (nat_cmp m n) ≡ Less) first
    (subst (λ k. ordering_then (nat_cmp (place_of a) (place_of k)) (nat_cmp m n) ≡ Less) second e)

sent_rise : (packets : List SeenPacket) → IsStrictlySortedBy packet_cmp packets → IsStrictlyIncreasing (sent_in packets)
sent_rise packets up = rises (filter is_sent packets) (IsStrictlySortedBy-filter packet_cmp is_sent packets up) (λ p among. sent_is p.event.now.kind (from_filter is_sent packets p among).1)
  where
    rises : (sent : List SeenPacket) → IsStrictlySortedBy packet_cmp sent → ((p : SeenPacket) → Contains sent p → p.event.now.kind ≡ PacketKind.Sent)
        → IsStrictlyIncreasing (map (λ (p : SeenPacket). p.event.now.sequence) sent)
    rises sent up each =
        increasing_from (λ (p : SeenPacket). p.event.now.sequence) sent
        (λ k d small.
        let first = each (get_or sent k d) (Contains-get_or sent k d (omega (arith, small))) in
        let second = each (get_or sent (k + 1) d) (Contains-get_or sent (k + 1) d small) in
        by_sequence (get_or sent k d).event.now.kind (get_or sent (k + 1) d).event.now.kind (get_or sent k d).event.now.sequence (get_or sent (k + 1) d).event.now.sequence first second
        (Less-from_sorted packet_cmp sent k (k + 1) d up (omega arith) small))

-- ---- of a path

abbrev pub fits : Option Surplus → SeenPacket → Bool
fits surplus p = has_room surplus p.event.now.sequence

module _ (setup : PathSetup) (saved : List Saved) (left : List LeftOutPacket) (are : AreLeftOut setup saved left) where
  abbrev pub stays : SeenPacket → Bool
  stays p = not (left_out_by setup.config.order left p.event.now.sequence)

  -- those that stay are those that aren't to be left out
  pub staying_are : (events : List SeenPacket) → filter stays events ≡ filter (λ (p : SeenPacket). not (is_left_out setup saved p.event.now.sequence)) events
  staying_are events = filter_agree stays (λ (p : SeenPacket). not (is_left_out setup saved p.event.now.sequence)) (λ p. ap not (are.2 p.event.now.sequence)) events

  pub taken_are : (surplus : Option Surplus) (events : List SeenPacket) → filter (fits surplus) (filter stays events) ≡ filter (λ (p : SeenPacket). takes setup saved surplus p.event.now.sequence) events
  taken_are surplus events = ap (filter (fits surplus)) (staying_are events) ∙ filter_both (λ (p : SeenPacket). not (is_left_out setup saved p.event.now.sequence)) (fits surplus) events

  pub have_taken : (surplus : Option Surplus) (events packets : List SeenPacket) → IsStrictlySortedBy packet_cmp events → HaveEvents setup saved events
      → IsPermutation (filter (fits surplus) (filter stays events)) packets → HaveTaken setup saved surplus packets
  have_taken surplus events packets up have same =
      have_permuted (filter (λ (e : PacketEvent). takes setup saved surplus e.sequence) (wanted_of setup saved)) (filter (λ (p : SeenPacket). takes setup saved surplus p.event.now.sequence) events) packets
      (subst (λ (l : List SeenPacket). IsPermutation l packets) (taken_are surplus events) same)
      (have_filtered (takes setup saved surplus) (wanted_of setup saved) events up have)

  -- what holds of all of the path's packets holds of those that are taken
  pub all_taken : (P : SeenPacket → Type 0) (surplus : Option Surplus) (events packets : List SeenPacket) → All P events → IsPermutation (filter (fits surplus) (filter stays events)) packets → All P packets
  all_taken P surplus events packets all same =
      All-permutation P (filter (fits surplus) (filter stays events)) packets same (All-filter (fits surplus) P (filter stays events) (All-filter stays P events all))

  -- ---- for which there is no room

  pub has_surplus : (events staying : List SeenPacket) → IsStrictlySortedBy packet_cmp events → HaveEvents setup saved events → staying ≡ filter stays events
      → HasSurplus setup saved (surplus_of (sent_in staying))
  has_surplus events staying up have is = (
    sent_in staying,
    sent_rise staying (subst (IsStrictlySortedBy packet_cmp) (sym is) (IsStrictlySortedBy-filter packet_cmp stays events up)),
    (λ n. (there n, back n)),
    refl,
  )
    where
      not_true : (b : Bool) → not b ≡ true → b ≡ false
      not_true true e = absurd (true≢false (sym e))
      not_true false e = refl

      there : (n : ℕ) → Contains (sent_in staying) n → IsSentOn setup saved n
      there n c =
          let (p, in_sent, same) = from_map (λ (p : SeenPacket). p.event.now.sequence) (filter is_sent staying) n c in
          let (in_staying, sends) = from_filter is_sent staying p in_sent in
          let (in_events, stay) = from_filter stays events p (subst (λ (l : List SeenPacket). Contains l p) is in_staying) in
          let wanted = All-contains (λ (q : SeenPacket). Contains (wanted_of setup saved) q.event.now) events p have.0 in_events in
          let kind : p.event.now.kind ≡ PacketKind.Sent = sent_is p.event.now.kind sends in (
            any_at (λ (e : PacketEvent). place_of e.kind == place_of PacketKind.Sent && e.sequence == n) (wanted_of setup saved) p.event.now wanted
                (λ i. eq-eqb (place_of p.event.now.kind) (place_of PacketKind.Sent) (ap place_of kind) i && eq-eqb p.event.now.sequence n same i),
            not_true (is_left_out setup saved n) (subst (λ m. not (is_left_out setup saved m) ≡ true) same (sym (ap not (are.2 p.event.now.sequence)) ∙ stay)),
          )

      back : (n : ℕ) → IsSentOn setup saved n → Contains (sent_in staying) n
      back n (told, stay) =
          let (e, among, kind, same) = told_event setup saved PacketKind.Sent n told in
          let (j, p, within, at, stands) = All-contains (λ f. Any (StandsFor f) events) (wanted_of setup saved) e have.1 among in
          let it : p.event.now.sequence ≡ n = stands.1 ∙ same in
          let in_staying : Contains staying p =
          subst (λ (l : List SeenPacket). Contains l p) (sym is)
          (in_filter stays events p (j, within, at) (ap not (are.2 p.event.now.sequence ∙ ap (is_left_out setup saved) it ∙ stay))) in
          let in_sent : Contains (filter is_sent staying) p = in_filter is_sent staying p in_staying (ap (λ k. counts_as k PacketKind.Sent) (stands.0 ∙ kind)) in
          subst (Contains (sent_in staying)) it (in_map (λ (q : SeenPacket). q.event.now.sequence) (filter is_sent staying) p in_sent)

-- ---- what those have that are taken

nothing_at : (sent received written received_too told : Bool)
    → (if not sent then Some PacketLack.Send else if received then None else if written || received_too then Some PacketLack.Receive else if told then None else Some PacketLack.Receipt) ≡ None
    → (sent ≡ true) × (written ≡ true → received ≡ true) × (received_too ≡ true → received ≡ true)
nothing_at false received written received_too told e = absurd (none-some PacketLack.Send (sym e))
nothing_at true true written received_too told e = (refl, λ w. refl, λ w. refl)
nothing_at true false true received_too told e = absurd (none-some PacketLack.Receive (sym e))
nothing_at true false false true told e = absurd (none-some PacketLack.Receive (sym e))
nothing_at true false false false told e = (refl, λ w. w, λ w. w)

committed_tells : (o : Option Pending) (n : ℕ) → Contains (told_in committed o) n → if_told is_commitments o ≡ true
committed_tells None n c = absurd (omega (arith, c.1))
committed_tells (Some (states.Commitments page)) n c = refl
committed_tells (Some (states.Unreceived sequences)) n c = absurd (omega (arith, c.1))
committed_tells (Some (states.Acknowledgements sequences)) n c = absurd (omega (arith, c.1))

module _ (setup : PathSetup) (saved : List Saved) (surplus : Option Surplus) (packets : List SeenPacket) (have : HaveTaken setup saved surplus packets) where
  -- a packet that is taken lacks nothing
  lacks_nothing : (n : ℕ) → Contains (sequences_of setup saved) n → takes setup saved surplus n ≡ true → lack setup saved n ≡ None
  lacks_nothing n among taken = by (lack setup saved n) refl
    where
      itself : (order : Order) → leaves_out order n n ≡ true
      itself Order.Ordered = le_true n n (omega arith)
      itself Order.Unordered = eq-eqb n n refl

      by : (o : Option PacketLack) → lack setup saved n ≡ o → lack setup saved n ≡ None
      by None is = is
      by (Some l) is =
          let left_out : is_left_out setup saved n ≡ true =
          any_at (λ m. leaves_out setup.config.order m n && is_some (lack setup saved m)) (sequences_of setup saved) n among (λ i. itself setup.config.order i && is_some (is i)) in
          absurd (true≢false (sym (and_parts _ _ taken).0 ∙ ap not left_out))

  parts : (n : ℕ) → Contains (sequences_of setup saved) n → takes setup saved surplus n ≡ true
      → (was_told setup saved PacketKind.Sent n ≡ true) × (was_told setup saved PacketKind.AckWritten n ≡ true → was_told setup saved PacketKind.Received n ≡ true)
      × (is_told_received saved n ≡ true → was_told setup saved PacketKind.Received n ≡ true)
  parts n among taken =
      nothing_at (was_told setup saved PacketKind.Sent n) (was_told setup saved PacketKind.Received n) (was_told setup saved PacketKind.AckWritten n) (is_told_received saved n) _ (lacks_nothing n among taken)

  of_told : (kind : PacketKind) (n : ℕ) → takes setup saved surplus n ≡ true → was_told setup saved kind n ≡ true → WasSeen packets kind n
  of_told kind n taken told =
      let (e, among, of_kind, same) = told_event setup saved kind n told in
      let (j, p, within, at, stands) =
      All-contains (λ f. Any (StandsFor f) packets) (filter (λ (f : PacketEvent). takes setup saved surplus f.sequence) (wanted_of setup saved)) e have.1
      (in_filter (λ (f : PacketEvent). takes setup saved surplus f.sequence) (wanted_of setup saved) e among (ap (takes setup saved surplus) same ∙ taken)) in
      (j, p, within, at, (stands.0 ∙ of_kind, stands.1 ∙ same))

  of_events : (e : PacketEvent) → Contains (wanted_of setup saved) e → Contains (sequences_of setup saved) e.sequence
  of_events e among =
      Contains-append_left (map (λ (f : PacketEvent). f.sequence) (wanted_of setup saved)) _ e.sequence (in_map (λ (f : PacketEvent). f.sequence) (wanted_of setup saved) e among)

  has_before : (e : PacketEvent) → Contains (wanted_of setup saved) e → takes setup saved surplus e.sequence ≡ true → IfSome (before e.kind) (λ kind. WasSeen packets kind e.sequence)
  has_before e among taken = by e.kind refl
    where
      it_was_sent : WasSeen packets PacketKind.Sent e.sequence
      it_was_sent = of_told PacketKind.Sent e.sequence taken (parts e.sequence (of_events e among) taken).0

      by : (kind : PacketKind) → e.kind ≡ kind → IfSome (before kind) (λ k. WasSeen packets k e.sequence)
      by PacketKind.Sent is = tt
      by PacketKind.Received is = it_was_sent
      by PacketKind.AckWritten is =
          let written : was_told setup saved PacketKind.AckWritten e.sequence ≡ true =
          any_at (λ (f : PacketEvent). place_of f.kind == place_of PacketKind.AckWritten && f.sequence == e.sequence) (wanted_of setup saved) e among
          (λ i. eq-eqb (place_of e.kind) (place_of PacketKind.AckWritten) (ap place_of is) i && eq-eqb e.sequence e.sequence refl i) in
          of_told PacketKind.Received e.sequence taken ((parts e.sequence (of_events e among) taken).1 written)
      by PacketKind.Cleared is = it_was_sent
      by PacketKind.TimedOut is = it_was_sent

  pub all_have_before : All (HasBefore packets) packets
  all_have_before =
      all_from (HasBefore packets) packets
      (λ p among.
      let (wanted, taken) = from_filter (λ (e : PacketEvent). takes setup saved surplus e.sequence) (wanted_of setup saved) p.event.now
      (All-contains (λ (q : SeenPacket). Contains (filter (λ (e : PacketEvent). takes setup saved surplus e.sequence) (wanted_of setup saved)) q.event.now) packets p have.0 among) in
      has_before p.event.now wanted taken)

  has_events : (s : Saved) (n : ℕ) → Contains saved s → Contains (committed_in s.answer) n → HasEvents setup saved surplus packets n
  has_events s n in_saved in_it late taken = (
    of_told PacketKind.Sent n taken (parts n among taken).0,
    (λ received. of_told PacketKind.Received n taken ((parts n among taken).2 (told received))),
  )
    where
      among : Contains (sequences_of setup saved) n
      among =
          Contains-append_right (map (λ (f : PacketEvent). f.sequence) (wanted_of setup saved)) _ n
          (in_filter (nat_le setup.config.first) (flat_map (λ (t : Saved). committed_in t.answer) saved) n (in_flat (λ (t : Saved). committed_in t.answer) saved s n in_saved in_it) (le_true setup.config.first n late))

      tells : tell_commitments saved ≡ true
      tells = any_at (λ (t : Saved). tells_commitments t.answer) saved s in_saved (committed_tells (pending_in s.answer) n in_it)

      told_at : (tell lacking : Bool) → (not tell || lacking) ≡ false → (tell && not lacking) ≡ true
      told_at true true e = absurd (true≢false e)
      told_at true false e = refl
      told_at false lacking e = absurd (true≢false e)

      told : is_unreceived saved n ≡ false → is_told_received saved n ≡ true
      told received = ap (λ b. (b && tell_unreceived saved) && not (lacks_receipt saved n)) tells ∙ told_at (tell_unreceived saved) (lacks_receipt saved n) received

  pub have_committed : lack_last_page saved ≡ false → HaveCommitted setup saved surplus packets
  have_committed last = (
    last,
    all_from (λ (s : Saved). All (HasEvents setup saved surplus packets) (committed_in s.answer)) saved (λ s in_saved.
        all_from (HasEvents setup saved surplus packets) (committed_in s.answer) (λ n in_it. has_events s n in_saved in_it)),
  )

-- ---- the sequences of those that were sent

append_nil : {X : Type 0} (xs : List X) → xs ++ [] ≡ xs
append_nil [] = refl
append_nil (x ∷ xs) = ap (λ l. x ∷ l) (append_nil xs)

one_more : (packets : List SeenPacket) (i : ℕ) (p : SeenPacket) (b : Bool) → i < length packets → p ≡ get_or packets i p → is_sent p ≡ b
    → filter is_sent (take (i + 1) packets) ≡ filter is_sent (take i packets) ++ cond b (p ∷ []) []
one_more packets i p b small is sends =
    filter_more is_sent packets i p small ∙ ap (λ (q : SeenPacket). filter is_sent (take i packets) ++ cond (is_sent q) (q ∷ []) []) (sym is)
    ∙ ap (λ c. filter is_sent (take i packets) ++ cond c (p ∷ []) []) sends

pub sent_more : (packets : List SeenPacket) (i : ℕ) (p : SeenPacket) (so_far after : List ℕ) → i < length packets → p ≡ get_or packets i p → is_sent p ≡ true
    → so_far ≡ sent_in (take i packets) → after ≡ so_far ++ p.event.now.sequence ∷ [] → after ≡ sent_in (take (i + 1) packets)
sent_more packets i p so_far after small is sends was now =
    now ∙ ap (λ l. l ++ p.event.now.sequence ∷ []) was ∙ sym (map_push (λ (q : SeenPacket). q.event.now.sequence) (filter is_sent (take i packets)) p)
    ∙ ap (map (λ (q : SeenPacket). q.event.now.sequence)) (sym (one_more packets i p true small is sends))

pub unsent_more : (packets : List SeenPacket) (i : ℕ) (p : SeenPacket) (so_far : List ℕ) → i < length packets → p ≡ get_or packets i p → is_sent p ≡ false
    → so_far ≡ sent_in (take i packets) → so_far ≡ sent_in (take (i + 1) packets)
unsent_more packets i p so_far small is sends was =
    was ∙ ap (map (λ (q : SeenPacket). q.event.now.sequence)) (sym (one_more packets i p false small is sends ∙ append_nil (filter is_sent (take i packets))))

pub ruleset sending = (sent_more, unsent_more)

-- ---- those that are taken, as they are found

pub permuted : (order : Order) (left slice : List LeftOutPacket) (surplus : Option Surplus) (events staying fitting packets : List SeenPacket) → slice ≡ left
    → staying ≡ filter (λ (p : SeenPacket). not (left_out_by order slice p.event.now.sequence)) events → fitting ≡ filter (fits surplus) staying → IsPermutation fitting packets
    → IsPermutation (filter (fits surplus) (filter (λ (p : SeenPacket). not (left_out_by order left p.event.now.sequence)) events)) packets
permuted order left slice surplus events staying fitting packets same first second moved =
    subst (λ (l : List SeenPacket). IsPermutation l packets)
    (second ∙ ap (filter (fits surplus)) (first ∙ ap (λ (l : List LeftOutPacket). filter (λ (p : SeenPacket). not (left_out_by order l p.event.now.sequence)) events) same)) moved

pub stayed : (order : Order) (left slice : List LeftOutPacket) (events staying : List SeenPacket) → slice ≡ left
    → staying ≡ filter (λ (p : SeenPacket). not (left_out_by order slice p.event.now.sequence)) events
    → staying ≡ filter (λ (p : SeenPacket). not (left_out_by order left p.event.now.sequence)) events
stayed order left slice events staying same first = first ∙ ap (λ (l : List LeftOutPacket). filter (λ (p : SeenPacket). not (left_out_by order l p.event.now.sequence)) events) same
