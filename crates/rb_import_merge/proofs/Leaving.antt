-- Which packets are left out.
use Rattle.std.proofs.Common.{◌≡◌, ◌≢◌, ◌⊎◌, ℕ, zero, suc, ◌+◌, ◌<◌, ◌≤◌, ◌==◌, ◌&&◌, ◌||◌, nat_le, not, List, [], ◌∷◌, ◌++◌, length, get_or, map, take, nat_lt, Bor, Option, Some, None, Bool, true, false, if◌then◌else◌, inl, inr, refl, sym, subst, ap, ◌∙◌, All, arith, eq-eqb}
use Rattle.std.specs.Prelude.{Any, Contains, is_some, string_bytes}
use Rattle.std.specs.Cmp.{IsEquivalence, unsigned_ties}
use Rattle.std.specs.List.{dedup, flat_map, list_any}
use Rattle.std.specs.List.Sorted.{IsPermutation, IsSorted, IsStrictlyIncreasing}
use Rattle.std.proofs.lemmas.Bool.{and_parts, eqb-true, le-ltb, leb-true, ltb-false, true≢false}
use Rattle.std.proofs.lemmas.Bool.Decides.{same_from_decides}
use Rattle.std.proofs.lemmas.Cmp.{nat_cmp_total, nat_eq_equiv, on_equiv, on_total}
use Rattle.std.proofs.lemmas.List.Elements.{All-contains, All-contains_itself, All-more, All-push, All-take, Contains-append_cases, Contains-append_left, Contains-append_right, Contains-get_or, Contains-push}
use Rattle.std.proofs.lemmas.List.Filters.{All-dedup}
use Rattle.std.proofs.lemmas.List.Kept.{Any-dedup, IsStrictlySortedBy-dedup}
use Rattle.std.proofs.lemmas.List.Sorted.{All-permutation, Contains-permutation}
use Rattle.std.proofs.lemmas.Option.{none-some, same_Some}
use Rattle.rb_scan.specs.declared.path.Order.{Order}
use Rattle.rb_import_answers.specs.declared.packets.PacketEvent.{PacketEvent}
use Rattle.rb_import_answers.specs.declared.packets.PacketKind.{PacketKind}
use Rattle.rb_import_setup.specs.declared.setup.PathSetup.{PathSetup}
use Rattle.rb_import_check.specs.declared.saved.Saved.{Saved}
use Rattle.rb_import_merge.specs.declared.left_out.LeftOutPacket.{LeftOutPacket}
use Rattle.rb_import_merge.specs.declared.left_out.PacketLack.{PacketLack}
use Rattle.rb_import_merge.specs.declared.packets.SeenPacket.{SeenPacket}
use Rattle.rb_import_merge.specs.LeftOut.{AreLeftOut, HasEntry, IsLeftOutFor, entries, first_if_ordered, is_left_out, is_told_received, lack, lack_from, leaves_out, left_out_by, of_one_sequence, sequence_cmp, sequence_of, sequences_of, shown_by, shows, was_told}
use Rattle.rb_import_merge.specs.Packets.{HaveEvents, IsOfFile, StandsFor, counterparty, events_of, is_wanted, wanted_of}
use Rattle.rb_import_merge.specs.Pending.{committed_in, tell_commitments}
use Rattle.rb_import_merge.proofs.Among.{any_at, from_filter, from_flat, from_map, in_filter, in_flat, in_map, le_true, one_passes}
use Rattle.rb_import_merge.proofs.Rising.{increasing, rise}
use Rattle.rb_import_merge.proofs.Telling.{told_event}

-- ---- what a packet lacks

-- what is lacking by tests: was it sent, received, acknowledged, received by the pending ones; are receipts told, was it cleared
lack_at : (sent received written received_too told : Bool) (l : PacketLack)
    → (if not sent then Some PacketLack.Send else if received then None else if written || received_too then Some PacketLack.Receive else if told then None else Some PacketLack.Receipt) ≡ Some l
    → received_too ≡ false → (PacketLack.Send ≡ l) ⊎ ((PacketLack.Receive ≡ l) × (written ≡ true)) ⊎ ((PacketLack.Receipt ≡ l) × (sent ≡ true))
lack_at false received written received_too told l e h = inl (same_Some _ l e)
lack_at true true written received_too told l e h = absurd (none-some l e)
lack_at true false true received_too told l e h = inr (inl (same_Some _ l e, refl))
lack_at true false false true told l e h = absurd (true≢false h)
lack_at true false false false true l e h = absurd (none-some l e)
lack_at true false false false false l e h = inr (inr (same_Some _ l e, refl))

-- an event of the packet shows what it lacks, unless it was received as answers on the pending packets tell
abbrev pub Shows : PathSetup → List Saved → ℕ → PacketLack → Type 0
Shows setup saved n l = (e : PacketEvent) × Contains (wanted_of setup saved) e × (e.sequence ≡ n) × (shows l e.kind ≡ true)

shown : (setup : PathSetup) (saved : List Saved) (e : PacketEvent) (l : PacketLack) → Contains (wanted_of setup saved) e → lack setup saved e.sequence ≡ Some l
    → is_told_received saved e.sequence ≡ false → Shows setup saved e.sequence l
shown setup saved e l among lacking none =
    by
    (lack_at (was_told setup saved PacketKind.Sent e.sequence) (was_told setup saved PacketKind.Received e.sequence) (was_told setup saved PacketKind.AckWritten e.sequence)
    (is_told_received saved e.sequence) _ l lacking none)
  where
    of_kind : (kind : PacketKind) (k : PacketLack) → shows k kind ≡ true → k ≡ l → was_told setup saved kind e.sequence ≡ true → Shows setup saved e.sequence l
    of_kind kind k fits is told =
        let (f, there, same_kind, same) = told_event setup saved kind e.sequence told in
        (f, there, same, subst (λ x. shows x f.kind ≡ true) is (ap (shows k) same_kind ∙ fits))

    by : (PacketLack.Send ≡ l) ⊎ ((PacketLack.Receive ≡ l) × (was_told setup saved PacketKind.AckWritten e.sequence ≡ true)) ⊎ ((PacketLack.Receipt ≡ l) × (was_told setup saved PacketKind.Sent e.sequence ≡ true))
        → Shows setup saved e.sequence l
    by (inl is) = (e, among, refl, ap (λ k. shows k e.kind) (sym is))
    by (inr (inl (is, told))) = of_kind PacketKind.AckWritten PacketLack.Receive refl is told
    by (inr (inr (is, told))) = of_kind PacketKind.Sent PacketLack.Receipt refl is told

-- ---- each that lacks something has an entry

shown_some : (l : PacketLack) (kind : PacketKind) → shows l kind ≡ true → shown_by kind (Some l) ≢ None
shown_some l kind fits none = by (shows l kind) fits none
  where
    by : (b : Bool) → b ≡ true → (if b then Some l else None) ≡ None → ⊥
    by true is none = none-some l (sym none)
    by false is none = true≢false (sym is)

-- the entries are those of the events that show what their packets lack, and of the commitments to packets that lack something
abbrev pub EventsHave : PathSetup → List Saved → List SeenPacket → List LeftOutPacket → Type 0
EventsHave setup saved packets lacking =
    All (λ (p : SeenPacket). shown_by p.event.now.kind (lack setup saved p.event.now.sequence) ≢ None → HasEntry p.event.now.sequence lacking) packets

abbrev pub CommitmentsHave : PathSetup → List Saved → List LeftOutPacket → Type 0
CommitmentsHave setup saved lacking =
    All (λ (s : Saved). All (λ n. setup.config.first ≤ n → lack setup saved n ≢ None → HasEntry n lacking) (committed_in s.answer)) saved

module _ (setup : PathSetup) (saved : List Saved) (packets : List SeenPacket) (lacking : List LeftOutPacket) (have : HaveEvents setup saved packets)
    (events : EventsHave setup saved packets lacking) (commitments : CommitmentsHave setup saved lacking) where
  of_commitment : (s : Saved) (n : ℕ) → Contains saved s → Contains (committed_in s.answer) n → setup.config.first ≤ n → lack setup saved n ≢ None → HasEntry n lacking
  of_commitment s n among there late lacks =
      All-contains (λ m. setup.config.first ≤ m → lack setup saved m ≢ None → HasEntry m lacking) (committed_in s.answer) n
      (All-contains (λ (t : Saved). All (λ m. setup.config.first ≤ m → lack setup saved m ≢ None → HasEntry m lacking) (committed_in t.answer)) saved s commitments among) there late lacks

  of_shown : (n : ℕ) (l : PacketLack) → lack setup saved n ≡ Some l → Shows setup saved n l → HasEntry n lacking
  of_shown n l is (e, among, same, fits) =
      let (j, p, within, at, (kind, sequence, block, sent)) = All-contains (λ f. Any (StandsFor f) packets) (wanted_of setup saved) e have.1 among in
      let lacks : lack setup saved p.event.now.sequence ≡ Some l = ap (lack setup saved) (sequence ∙ same) ∙ is in
      let shown_it : shown_by p.event.now.kind (lack setup saved p.event.now.sequence) ≢ None =
      subst (λ (o : Option PacketLack). shown_by p.event.now.kind o ≢ None) (sym lacks) (shown_some l p.event.now.kind (ap (shows l) kind ∙ fits)) in
      subst (λ m. HasEntry m lacking) (sequence ∙ same)
      (All-contains (λ (q : SeenPacket). shown_by q.event.now.kind (lack setup saved q.event.now.sequence) ≢ None → HasEntry q.event.now.sequence lacking) packets p events (j, within, at) shown_it)

  -- a wanted event is of a packet from the first on, and where answers tell of commitments, one does of its
  of_event : (e : PacketEvent) (l : PacketLack) → Contains (wanted_of setup saved) e → lack setup saved e.sequence ≡ Some l → HasEntry e.sequence lacking
  of_event e l among is = by (is_told_received saved e.sequence) refl
    where
      committed_at : (told has : Bool) → told ≡ true → (not told || has) ≡ true → has ≡ true
      committed_at true has is either = either
      committed_at false has is either = absurd (true≢false (sym is))

      by : (b : Bool) → is_told_received saved e.sequence ≡ b → HasEntry e.sequence lacking
      by false none = of_shown e.sequence l is (shown setup saved e l among is none)
      by true told =
          let wanted = (from_filter (is_wanted setup (counterparty setup (events_of saved)) saved) (events_of saved) e among).1 in
          let whole = and_parts _ _ wanted in
          let late = and_parts _ _ whole.0 in
          let pending = and_parts _ _ (and_parts _ _ told).0 in
          let committed = committed_at (tell_commitments saved) _ pending.0 whole.1 in
          let (s, there, has) = one_passes (λ (s : Saved). list_any (λ n. n == e.sequence) (committed_in s.answer)) saved committed in
          let (n, in_it, same) = one_passes (λ n. n == e.sequence) (committed_in s.answer) has in
          of_commitment s e.sequence there (subst (Contains (committed_in s.answer)) (eqb-true n e.sequence same) in_it) (leb-true setup.config.first e.sequence late.1)
          (λ none. none-some l (sym none ∙ is))

  -- so has each packet that the answers tell of and that lacks something
  pub has_entry : (n : ℕ) → Contains (sequences_of setup saved) n → lack setup saved n ≢ None → HasEntry n lacking
  has_entry n among lacks = elim (Contains-append_cases (map (λ (e : PacketEvent). e.sequence) (wanted_of setup saved)) _ n among) [
    | inl of_events ↦ (
        let (e, there, same) = from_map (λ (e : PacketEvent). e.sequence) (wanted_of setup saved) n of_events in
        subst (λ m. HasEntry m lacking) same (by_lack e (lack setup saved e.sequence) refl there (subst (λ m. lack setup saved m ≢ None) (sym same) lacks)))
    | inr of_commitments ↦ (
        let (there, late) = from_filter (nat_le setup.config.first) (flat_map (λ (s : Saved). committed_in s.answer) saved) n of_commitments in
        let (s, in_saved, in_it) = from_flat (λ (s : Saved). committed_in s.answer) saved n there in
        of_commitment s n in_saved in_it (leb-true setup.config.first n late) lacks)
  ]
    where
      by_lack : (e : PacketEvent) (o : Option PacketLack) → lack setup saved e.sequence ≡ o → Contains (wanted_of setup saved) e → lack setup saved e.sequence ≢ None → HasEntry e.sequence lacking
      by_lack e (Some l) is there lacks = of_event e l there is
      by_lack e None is there lacks = absurd (lacks is)

-- ---- the packets that are left out

-- an entry is of a packet that the answers tell of
told : (setup : PathSetup) (saved : List Saved) (l : LeftOutPacket) → IsLeftOutFor setup saved l → Contains (sequences_of setup saved) l.sequence
told setup saved l (lacks, inl (k, e, small, is, (same, fits, file))) =
    Contains-append_left (map (λ (f : PacketEvent). f.sequence) (wanted_of setup saved)) _ l.sequence
    (subst (Contains (map (λ (f : PacketEvent). f.sequence) (wanted_of setup saved))) same (in_map (λ (f : PacketEvent). f.sequence) (wanted_of setup saved) e (k, small, is)))
told setup saved l (lacks, inr (late, (k, s, small, is, (there, file)))) =
    Contains-append_right (map (λ (f : PacketEvent). f.sequence) (wanted_of setup saved)) _ l.sequence
    (in_filter (nat_le setup.config.first) (flat_map (λ (t : Saved). committed_in t.answer) saved) l.sequence
    (in_flat (λ (t : Saved). committed_in t.answer) saved s l.sequence (k, small, is) there) (le_true setup.config.first l.sequence late))

-- what a packet leaves out, one below it on an ORDERED path does, too
onward : (order : Order) (a b n : ℕ) → leaves_out order a b ≡ true → leaves_out order b n ≡ true → leaves_out order a n ≡ true
onward Order.Ordered a b n first second =
    let up = leb-true a b first in
    let on = leb-true b n second in
    le_true a n (omega (arith, up, on))
onward Order.Unordered a b n first second = eq-eqb a n (eqb-true a b first ∙ eqb-true b n second)

module _ (setup : PathSetup) (saved : List Saved) (left : List LeftOutPacket) (each : All (IsLeftOutFor setup saved) left)
    (all : (n : ℕ) → Contains (sequences_of setup saved) n → lack setup saved n ≢ None → list_any (λ (l : LeftOutPacket). leaves_out setup.config.order l.sequence n) left ≡ true) where
  -- those are left out that are to be
  pub same_left : (n : ℕ) → left_out_by setup.config.order left n ≡ is_left_out setup saved n
  same_left n =
      same_from_decides {P = is_left_out setup saved n ≡ true} (left_out_by setup.config.order left n) (is_left_out setup saved n) (there, back) ((λ e. e), (λ e. e))
    where
      there : list_any (λ (l : LeftOutPacket). leaves_out setup.config.order l.sequence n) left ≡ true
          → list_any (λ m. leaves_out setup.config.order m n && is_some (lack setup saved m)) (sequences_of setup saved) ≡ true
      there e =
          let (l, among, fits) = one_passes (λ (l : LeftOutPacket). leaves_out setup.config.order l.sequence n) left e in
          let why = All-contains (IsLeftOutFor setup saved) left l each among in
          any_at (λ m. leaves_out setup.config.order m n && is_some (lack setup saved m)) (sequences_of setup saved) l.sequence (told setup saved l why) (λ i. fits i && is_some (why.0 i))

      is_none : (o : Option PacketLack) → is_some o ≡ true → o ≢ None
      is_none (Some l) fits none = none-some l (sym none)
      is_none None fits none = true≢false (sym fits)

      back : list_any (λ m. leaves_out setup.config.order m n && is_some (lack setup saved m)) (sequences_of setup saved) ≡ true
          → list_any (λ (l : LeftOutPacket). leaves_out setup.config.order l.sequence n) left ≡ true
      back e =
          let (m, among, fits) = one_passes (λ m. leaves_out setup.config.order m n && is_some (lack setup saved m)) (sequences_of setup saved) e in
          let parts = and_parts _ _ fits in
          let (l, there, before) = one_passes (λ (l : LeftOutPacket). leaves_out setup.config.order l.sequence m) left (all m among (is_none (lack setup saved m) parts.1)) in
          any_at (λ (k : LeftOutPacket). leaves_out setup.config.order k.sequence n) left l there (onward setup.config.order l.sequence m n before parts.0)

-- an entry leaves its packet out; on an ORDERED path the first one does
pub leaves_by : (order : Order) (rising : List LeftOutPacket) (n : ℕ) → IsStrictlyIncreasing (map sequence_of rising) → HasEntry n rising
    → list_any (λ (l : LeftOutPacket). leaves_out order l.sequence n) (first_if_ordered order rising) ≡ true
unfolding HasEntry
leaves_by Order.Unordered rising n up (k, l, small, is, same) = any_at (λ (m : LeftOutPacket). m.sequence == n) rising l (k, small, is) (eq-eqb l.sequence n same)
leaves_by Order.Ordered [] n up (k, l, small, is, same) = absurd (omega (arith, small))
leaves_by Order.Ordered (x ∷ rising) n up (k, l, small, is, same) =
    any_at (λ (m : LeftOutPacket). nat_le m.sequence n) (x ∷ []) x (0, omega arith, refl) (least k small is)
  where
    least : (k : ℕ) → k < length (x ∷ rising) → get_or (x ∷ rising) k l ≡ l → nat_le x.sequence n ≡ true
    least zero small is = let e = ap sequence_of is ∙ same in le_true x.sequence n (omega (arith, e))
    least (suc k) small is =
        let less = rise sequence_of (x ∷ rising) up 0 (suc k) l (omega arith) small in
        let e = ap sequence_of is ∙ same in
        le_true x.sequence n (omega (arith, less, e))

-- ---- one entry more

pub entries_none : (xs : List LeftOutPacket) → xs ≡ xs ++ []
entries_none [] = refl
entries_none (x ∷ xs) = ap (λ l. x ∷ l) (entries_none xs)

pub entries_kept : (n m : ℕ) (o : Option PacketLack) (file : Bor (List ℕ)) (xs ys : List LeftOutPacket) → ys ≡ xs ++ entries m o file → HasEntry n xs → HasEntry n ys
unfolding HasEntry
entries_kept n m o file xs ys is (k, l, small, at, same) =
    let (j, less, there) = Contains-append_left xs (entries m o file) l (k, small, at) in
    subst (Any (λ (x : LeftOutPacket). x.sequence ≡ n)) (sym is) (j, l, less, there, same)

pub entries_have : (m : ℕ) (o : Option PacketLack) (file : Bor (List ℕ)) (xs ys : List LeftOutPacket) → ys ≡ xs ++ entries m o file → o ≢ None → HasEntry m ys
unfolding HasEntry
entries_have m None file xs ys is some = absurd (some refl)
entries_have m (Some l) file xs ys is some =
    let (j, less, there) = Contains-push xs (record { sequence = m; lack = l; file = file }) in
    subst (Any (λ (x : LeftOutPacket). x.sequence ≡ m)) (sym is) (j, record { sequence = m; lack = l; file = file }, less, there, refl)

pub entries_all : (P : LeftOutPacket → Type 0) (m : ℕ) (o : Option PacketLack) (file : Bor (List ℕ)) (xs ys : List LeftOutPacket) → ys ≡ xs ++ entries m o file
    → ((l : PacketLack) → o ≡ Some l → P (record { sequence = m; lack = l; file = file })) → All P xs → All P ys
entries_all P m None file xs ys is each all = subst (All P) (entries_none xs ∙ sym is) all
entries_all P m (Some l) file xs ys is each all = subst (All P) (sym is) (All-push P xs (record { sequence = m; lack = l; file = file }) all (each l refl))

shown_parts : (kind : PacketKind) (o : Option PacketLack) (l : PacketLack) → shown_by kind o ≡ Some l → (o ≡ Some l) × (shows l kind ≡ true)
shown_parts kind None l e = absurd (none-some l e)
shown_parts kind (Some m) l e = by (shows m kind) refl e
  where
    by : (b : Bool) → shows m kind ≡ b → (if b then Some m else None) ≡ Some l → (Some m ≡ Some l) × (shows l kind ≡ true)
    by true is e = (e, subst (λ k. shows k kind ≡ true) (same_Some m l e) is)
    by false is e = absurd (none-some l e)

from_parts : (first n : ℕ) (o : Option PacketLack) (l : PacketLack) → lack_from first n o ≡ Some l → (first ≤ n) × (o ≡ Some l)
from_parts first n o l e = by (nat_lt n first) refl e
  where
    by : (b : Bool) → nat_lt n first ≡ b → (if b then None else o) ≡ Some l → (first ≤ n) × (o ≡ Some l)
    by true is e = absurd (none-some l e)
    by false is e = (ltb-false n first is, e)

module _ (setup : PathSetup) (saved : List Saved) where
  -- what an event shows is an entry
  pub of_an_event : (packets : List SeenPacket) (i : ℕ) (p : SeenPacket) (l : PacketLack) → HaveEvents setup saved packets → All (IsOfFile saved) packets → i < length packets → p ≡ get_or packets i p
      → shown_by p.event.now.kind (lack setup saved p.event.now.sequence) ≡ Some l → IsLeftOutFor setup saved (record { sequence = p.event.now.sequence; lack = l; file = p.file })
  of_an_event packets i p l have files small is e =
      let (lacking, fits) = shown_parts p.event.now.kind (lack setup saved p.event.now.sequence) l e in
      let among : Contains packets p = (i, small, sym is) in
      let (j, less, there) = All-contains (λ (q : SeenPacket). Contains (wanted_of setup saved) q.event.now) packets p have.0 among in
      (lacking, inl (j, p.event.now, less, there, (refl, fits, All-contains (IsOfFile saved) packets p files among)))

  -- so is a commitment to a packet that lacks something
  pub of_a_commitment : (s : Saved) (n : ℕ) (l : PacketLack) (file : Bor (List ℕ)) → Contains saved s → Contains (committed_in s.answer) n → file.now ≡ string_bytes s.file
      → lack_from setup.config.first n (lack setup saved n) ≡ Some l → IsLeftOutFor setup saved (record { sequence = n; lack = l; file = file })
  of_a_commitment s n l file (k, small, is) there named e =
      let (late, lacking) = from_parts setup.config.first n (lack setup saved n) l e in
      (lacking, inr (late, (k, s, small, is, (there, sym named))))

  abbrev pub EventHas : List LeftOutPacket → SeenPacket → Type 0
  EventHas lacking p = shown_by p.event.now.kind (lack setup saved p.event.now.sequence) ≢ None → HasEntry p.event.now.sequence lacking

  abbrev pub CommitmentHas : List LeftOutPacket → ℕ → Type 0
  CommitmentHas lacking n = setup.config.first ≤ n → lack setup saved n ≢ None → HasEntry n lacking

  pub events_more : (packets : List SeenPacket) (i : ℕ) (p : SeenPacket) (before after : List LeftOutPacket) → i < length packets → p ≡ get_or packets i p
      → ((n : ℕ) → HasEntry n before → HasEntry n after) → All (EventHas before) (take i packets) → EventHas after p → All (EventHas after) (take (i + 1) packets)
  events_more packets i p before after small is kept so_far this =
      All-more (EventHas after) packets i p small (λ k d less shown. kept _ (so_far k d less shown)) (subst (EventHas after) is this)

  pub numbers_more : (numbers : List ℕ) (i n : ℕ) (before after : List LeftOutPacket) → i < length numbers → n ≡ get_or numbers i n
      → ((n : ℕ) → HasEntry n before → HasEntry n after) → All (CommitmentHas before) (take i numbers) → CommitmentHas after n → All (CommitmentHas after) (take (i + 1) numbers)
  numbers_more numbers i n before after small is kept so_far this =
      All-more (CommitmentHas after) numbers i n small (λ k d less late lacks. kept _ (so_far k d less late lacks)) (subst (CommitmentHas after) is this)

  pub answers_more : (i : ℕ) (s : Saved) (before after : List LeftOutPacket) → i < length saved → s ≡ get_or saved i s → ((n : ℕ) → HasEntry n before → HasEntry n after)
      → All (λ (t : Saved). All (CommitmentHas before) (committed_in t.answer)) (take i saved) → All (CommitmentHas after) (committed_in s.answer)
      → All (λ (t : Saved). All (CommitmentHas after) (committed_in t.answer)) (take (i + 1) saved)
  answers_more i s before after small is kept so_far this =
      All-more (λ (t : Saved). All (CommitmentHas after) (committed_in t.answer)) saved i s small (λ k d less j n within late lacks. kept _ (so_far k d less j n within late lacks))
      (subst (λ (t : Saved). All (CommitmentHas after) (committed_in t.answer)) is this)

  pub no_events : (packets : List SeenPacket) (lacking : List LeftOutPacket) → All (EventHas lacking) (take 0 packets)
  no_events [] lacking = λ k d small. absurd (omega (arith, small))
  no_events (p ∷ packets) lacking = λ k d small. absurd (omega (arith, small))

  pub no_numbers : (numbers : List ℕ) (lacking : List LeftOutPacket) → All (CommitmentHas lacking) (take 0 numbers)
  no_numbers [] lacking = λ k d small. absurd (omega (arith, small))
  no_numbers (n ∷ numbers) lacking = λ k d small. absurd (omega (arith, small))

  pub no_answers : (lacking : List LeftOutPacket) → All (λ (t : Saved). All (CommitmentHas lacking) (committed_in t.answer)) (take 0 saved)
  no_answers lacking = none_yet saved
    where
      none_yet : (answers : List Saved) → All (λ (t : Saved). All (CommitmentHas lacking) (committed_in t.answer)) (take 0 answers)
      none_yet [] = λ k d small. absurd (omega (arith, small))
      none_yet (s ∷ answers) = λ k d small. absurd (omega (arith, small))

pub lacks_from : (first n : ℕ) (o : Option PacketLack) → first ≤ n → o ≢ None → lack_from first n o ≢ None
lacks_from first n o late some = by (nat_lt n first) (le-ltb n first late)
  where
    by : (b : Bool) → b ≡ false → (if b then None else o) ≡ None → ⊥
    by true is none = true≢false is
    by false is none = some none

-- ---- all of them

in_rising : (n : ℕ) (lacking rising : List LeftOutPacket) → HasEntry n lacking → All (λ (l : LeftOutPacket). HasEntry l.sequence rising) lacking → HasEntry n rising
unfolding HasEntry
in_rising n lacking rising (k, l, small, at, same) all =
    let (j, m, less, is, one) = All-contains (λ (x : LeftOutPacket). Any (λ (y : LeftOutPacket). y.sequence ≡ x.sequence) rising) lacking l all (k, small, at) in
    (j, m, less, is, one ∙ same)

first_alone : (rising : List LeftOutPacket) → IsStrictlyIncreasing (map sequence_of (take 1 rising))
first_alone [] = λ k small. absurd (omega (arith, small))
first_alone (l ∷ rising) = λ k small. absurd (omega (arith, small))

at_most_one : (rising : List LeftOutPacket) → length (take 1 rising) ≤ 1
at_most_one [] = omega arith
at_most_one (l ∷ rising) = omega arith

abbrev is_unordered : Order → Bool
is_unordered Order.Ordered = false
is_unordered Order.Unordered = true

unordered : Order.Unordered ≡ Order.Ordered → ⊥
unordered e = true≢false (ap is_unordered e)

pub are_left_out : (setup : PathSetup) (saved : List Saved) (packets : List SeenPacket) (lacking rising left : List LeftOutPacket) → HaveEvents setup saved packets
    → All (IsLeftOutFor setup saved) lacking → EventsHave setup saved packets lacking → CommitmentsHave setup saved lacking → All (Contains lacking) rising
    → All (λ (l : LeftOutPacket). HasEntry l.sequence rising) lacking → IsStrictlyIncreasing (map sequence_of rising) → left ≡ first_if_ordered setup.config.order rising
    → AreLeftOut setup saved left
are_left_out setup saved packets lacking rising left have reasons events commitments among all up is =
    subst (AreLeftOut setup saved) (sym is)
    (each, increasing_too setup.config.order, same_left setup saved (first_if_ordered setup.config.order rising) each leaves, one_at setup.config.order)
  where
    of_rising : All (IsLeftOutFor setup saved) rising
    of_rising = λ k d small. All-contains (IsLeftOutFor setup saved) lacking (get_or rising k d) reasons (among k d small)

    each_at : (order : Order) → All (IsLeftOutFor setup saved) (first_if_ordered order rising)
    each_at Order.Ordered = All-take (IsLeftOutFor setup saved) 1 rising of_rising
    each_at Order.Unordered = of_rising

    each : All (IsLeftOutFor setup saved) (first_if_ordered setup.config.order rising)
    each = each_at setup.config.order

    increasing_too : (order : Order) → IsStrictlyIncreasing (map sequence_of (first_if_ordered order rising))
    increasing_too Order.Ordered = first_alone rising
    increasing_too Order.Unordered = up

    leaves : (n : ℕ) → Contains (sequences_of setup saved) n → lack setup saved n ≢ None
        → list_any (λ (l : LeftOutPacket). leaves_out setup.config.order l.sequence n) (first_if_ordered setup.config.order rising) ≡ true
    leaves n told lacks =
        leaves_by setup.config.order rising n up (in_rising n lacking rising (has_entry setup saved packets lacking have events commitments n told lacks) all)

    one_at : (order : Order) → order ≡ Order.Ordered → length (first_if_ordered order rising) ≤ 1
    one_at Order.Ordered is = at_most_one rising
    one_at Order.Unordered is = absurd (unordered is)

-- ---- the first of each run

one_equivalence : IsEquivalence of_one_sequence
one_equivalence = on_equiv sequence_of nat_eq_equiv

pub firsts_among : (given sorted : List LeftOutPacket) → IsPermutation given sorted → All (Contains given) (dedup of_one_sequence sorted)
firsts_among given sorted same = All-dedup of_one_sequence (Contains given) sorted (All-permutation (Contains given) given sorted same (All-contains_itself given))

pub firsts_have : (given sorted : List LeftOutPacket) → IsPermutation given sorted → All (λ (l : LeftOutPacket). HasEntry l.sequence (dedup of_one_sequence sorted)) given
unfolding HasEntry
firsts_have given sorted same = λ k d small.
    let l = get_or given k d in
    let (j, m, less, is, one) = Any-dedup one_equivalence sorted l (Contains-permutation given sorted l same (Contains-get_or given k d small)) in
    (j, m, less, is, sym (eqb-true l.sequence m.sequence one))

pub firsts_rise : (sorted : List LeftOutPacket) → IsSorted sequence_cmp sorted → IsStrictlyIncreasing (map sequence_of (dedup of_one_sequence sorted))
firsts_rise sorted up =
    increasing sequence_of (dedup of_one_sequence sorted)
    (IsStrictlySortedBy-dedup (on_total sequence_of nat_cmp_total) (λ (l m : LeftOutPacket). unsigned_ties l.sequence m.sequence) sorted up)
