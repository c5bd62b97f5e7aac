-- The first of each run of events of one kind and sequence, which stand by block, stands for all of it.
use Rattle.std.proofs.Common.{◌≡◌, ◌⊎◌, ℕ, zero, suc, ◌+◌, ◌<◌, ◌≤◌, ◌==◌, ◌&&◌, List, [], ◌∷◌, length, get_or, Bool, true, false, cond, inl, inr, refl, sym, subst, ap, ◌∙◌, arith, All}
use Rattle.std.specs.Prelude.{Any, Contains}
use Rattle.std.specs.Cmp.{IsTotalOrder, both_tied, unsigned_ties, then_total}
use Rattle.std.specs.List.{IsDistinct, dedup, dedup_from}
use Rattle.std.specs.List.Sorted.{IsPermutation, IsSorted, IsStrictlySortedBy}
use Rattle.std.specs.Ordering.{nat_cmp, ordering_reverse, ordering_then, is_lt, is_eq, eq_by_cmp}
use Rattle.std.specs.declared.cmp.Ordering.{Ordering}
use Rattle.std.specs.declared.cmp.Ordering.TheVariants.{Less, Equal, Greater}
use Rattle.std.proofs.lemmas.Bool.{true≢false, and_parts, eqb-true}
use Rattle.std.proofs.lemmas.Cmp.{on_total, nat_cmp_total}
use Rattle.std.proofs.lemmas.List.Elements.{All-contains_itself}
use Rattle.std.proofs.lemmas.List.Filters.{All-dedup}
use Rattle.std.proofs.lemmas.List.Kept.{IsStrictlySortedBy-dedup}
use Rattle.std.proofs.lemmas.List.Sorted.{All-permutation, IsPermutation-sym}
use Rattle.std.proofs.lemmas.Map.Keys.{IsDistinct-from_sorted, Less-from_sorted, ge_from_not_lt}
use Rattle.rb_import_answers.specs.declared.packets.PacketEvent.{PacketEvent}
use Rattle.rb_import_answers.specs.declared.packets.PacketKind.{PacketKind}
use Rattle.rb_import_check.specs.declared.error.ImportError.{ImportError}
use Rattle.rb_import_check.specs.declared.error.ImportError.TheVariants as errors
use Rattle.rb_import_merge.specs.declared.packets.SeenPacket.{SeenPacket}
use Rattle.rb_import_merge.specs.Packets.{StandsFor, are_of_one, place_of}
use Rattle.rb_import_merge.specs.Lowest.{AreEqualSendings, AreTwoOf, NamesTwo, block_cmp, packet_cmp}
use Rattle.rb_import_merge.proofs.Seeing.{any_among}

-- ---- what stands for what

pub same_place : (a b : PacketKind) → place_of a ≡ place_of b → a ≡ b
same_place PacketKind.Sent PacketKind.Sent e = refl
same_place PacketKind.Sent PacketKind.Received e = absurd (omega (arith, e))
same_place PacketKind.Sent PacketKind.AckWritten e = absurd (omega (arith, e))
same_place PacketKind.Sent PacketKind.Cleared e = absurd (omega (arith, e))
same_place PacketKind.Sent PacketKind.TimedOut e = absurd (omega (arith, e))
same_place PacketKind.Received PacketKind.Sent e = absurd (omega (arith, e))
same_place PacketKind.Received PacketKind.Received e = refl
same_place PacketKind.Received PacketKind.AckWritten e = absurd (omega (arith, e))
same_place PacketKind.Received PacketKind.Cleared e = absurd (omega (arith, e))
same_place PacketKind.Received PacketKind.TimedOut e = absurd (omega (arith, e))
same_place PacketKind.AckWritten PacketKind.Sent e = absurd (omega (arith, e))
same_place PacketKind.AckWritten PacketKind.Received e = absurd (omega (arith, e))
same_place PacketKind.AckWritten PacketKind.AckWritten e = refl
same_place PacketKind.AckWritten PacketKind.Cleared e = absurd (omega (arith, e))
same_place PacketKind.AckWritten PacketKind.TimedOut e = absurd (omega (arith, e))
same_place PacketKind.Cleared PacketKind.Sent e = absurd (omega (arith, e))
same_place PacketKind.Cleared PacketKind.Received e = absurd (omega (arith, e))
same_place PacketKind.Cleared PacketKind.AckWritten e = absurd (omega (arith, e))
same_place PacketKind.Cleared PacketKind.Cleared e = refl
same_place PacketKind.Cleared PacketKind.TimedOut e = absurd (omega (arith, e))
same_place PacketKind.TimedOut PacketKind.Sent e = absurd (omega (arith, e))
same_place PacketKind.TimedOut PacketKind.Received e = absurd (omega (arith, e))
same_place PacketKind.TimedOut PacketKind.AckWritten e = absurd (omega (arith, e))
same_place PacketKind.TimedOut PacketKind.Cleared e = absurd (omega (arith, e))
same_place PacketKind.TimedOut PacketKind.TimedOut e = refl

one_parts : (p q : SeenPacket) → are_of_one p q ≡ true → (p.event.now.kind ≡ q.event.now.kind) × (p.event.now.sequence ≡ q.event.now.sequence)
one_parts p q e =
    let parts = and_parts _ _ e in
    (same_place p.event.now.kind q.event.now.kind (eqb-true _ _ parts.0), eqb-true _ _ parts.1)

itself : (p : SeenPacket) → StandsFor p.event.now p
itself p = (refl, refl, omega arith, λ sent. (refl, refl, refl, refl))

onward : (a b : SeenPacket) (e : PacketEvent) → StandsFor b.event.now a → StandsFor e b → StandsFor e a
onward a b e first second = (
  first.0 ∙ second.0,
  first.1 ∙ second.1,
  omega (arith, first.2, second.2),
  λ sent. let up = first.3 (second.0 ∙ sent) in let on = second.3 sent in (up.0 ∙ on.0, up.1 ∙ on.1, up.2 ∙ on.2, up.3 ∙ on.3),
)

-- ---- what the order gives

earlier : (o r : Ordering) → is_lt (ordering_then o r) ≡ false → is_lt o ≡ false
earlier Less r h = h
earlier Equal r h = refl
earlier Greater r h = refl

later : (o r : Ordering) → o ≡ Equal → is_lt (ordering_then o r) ≡ false → is_lt r ≡ false
later Less r e h = absurd (true≢false h)
later Equal r e h = h
later Greater r e h = absurd (true≢false (sym (ap is_eq e)))

equal : (o : Ordering) → is_eq o ≡ true → o ≡ Equal
equal Less e = absurd (true≢false (sym e))
equal Equal e = refl
equal Greater e = absurd (true≢false (sym e))

ties : (p q : SeenPacket) → are_of_one p q ≡ eq_by_cmp packet_cmp p q
ties p q =
    both_tied _ _ (nat_cmp (place_of p.event.now.kind) (place_of q.event.now.kind)) (nat_cmp p.event.now.sequence q.event.now.sequence)
    (unsigned_ties (place_of p.event.now.kind) (place_of q.event.now.kind)) (unsigned_ties p.event.now.sequence q.event.now.sequence)

total : IsTotalOrder packet_cmp
total = then_total (on_total (λ (p : SeenPacket). place_of p.event.now.kind) nat_cmp_total) (on_total (λ (p : SeenPacket). p.event.now.sequence) nat_cmp_total)

-- neighbours
abbrev pub Follows : SeenPacket → SeenPacket → Type 0
Follows p q = (is_lt (block_cmp q p) ≡ false) × AreEqualSendings p q

abbrev pub Stand : List SeenPacket → Type 0
Stand ps = (k : ℕ) (d : SeenPacket) → k + 1 < length ps → Follows (get_or ps k d) (get_or ps (k + 1) d)

-- the one before stands for the next one of its kind and sequence
step : (p q : SeenPacket) → Follows p q → are_of_one q p ≡ true → StandsFor q.event.now p
step p q h one =
    let same = one_parts q p one in
    let tied : packet_cmp q p ≡ Equal = equal (packet_cmp q p) (sym (ties q p) ∙ one) in
    let block : p.event.now.block ≤ q.event.now.block = ge_from_not_lt q.event.now.block p.event.now.block (later (packet_cmp q p) (nat_cmp q.event.now.block p.event.now.block) tied h.0) in
    (sym same.0, sym same.1, block, λ sent. h.1 (sym same.0 ∙ sent) sent (sym same.1))

-- ---- runs

cases : (x z : SeenPacket) (xs : List SeenPacket) → Contains (x ∷ xs) z → (z ≡ x) ⊎ Contains xs z
cases x z xs (zero, small, is) = inl (sym is)
cases x z xs (suc k, small, is) = inr (k, omega arith, is)

any_later : (P : SeenPacket → Type 0) (x : SeenPacket) (xs : List SeenPacket) → Any P xs → Any P (x ∷ xs)
any_later P x xs (k, y, small, is, p) = (suc k, y, omega arith, is, p)

-- the first one is kept
first_at : (P : SeenPacket → Type 0) (k x : SeenPacket) (xs : List SeenPacket) (b : Bool) → Any P (dedup_from are_of_one k xs) → P k → Any P (cond b (dedup_from are_of_one k xs) (k ∷ dedup_from are_of_one x xs))
first_at P k x xs true w p = w
first_at P k x xs false w p = (0, k, omega arith, refl, p)

first_kept : (P : SeenPacket → Type 0) (k : SeenPacket) (xs : List SeenPacket) → P k → Any P (dedup_from are_of_one k xs)
first_kept P k [] p = (0, k, omega arith, refl, p)
first_kept P k (x ∷ xs) p = first_at P k x xs (are_of_one x k) (first_kept P k xs p) p

rest : (x : SeenPacket) (xs : List SeenPacket) → Stand (x ∷ xs) → Stand xs
rest x xs h = λ k d small.
    let next : suc k + 1 ≡ suc (k + 1) = omega arith in
    subst (λ n. Follows (get_or (x ∷ xs) (suc k) d) (get_or (x ∷ xs) n d)) next (h (suc k) d (omega arith))

-- of one kind and sequence with what stands for another is of one with that
of_one_too : (x k l : SeenPacket) → StandsFor l.event.now k → are_of_one x k ≡ true → are_of_one x l ≡ true
of_one_too x k l s one =
    subst (λ n. (place_of x.event.now.kind == place_of l.event.now.kind && x.event.now.sequence == n) ≡ true) s.1
    (subst (λ kind. (place_of x.event.now.kind == place_of kind && x.event.now.sequence == k.event.now.sequence) ≡ true) s.0 one)

-- k is the last one kept, and l the last one seen, for which k stands
mutual_at : (xs : List SeenPacket) (x k l z : SeenPacket) (b : Bool) → are_of_one x k ≡ b → StandsFor l.event.now k → Follows l x
    → ((m : SeenPacket) → StandsFor x.event.now m → Any (StandsFor z.event.now) (dedup_from are_of_one m xs))
    → Any (StandsFor z.event.now) (cond b (dedup_from are_of_one k xs) (k ∷ dedup_from are_of_one x xs))
mutual_at xs x k l z true e s f next = next k (onward k l x.event.now s (step l x f (of_one_too x k l s e)))
mutual_at xs x k l z false e s f next = any_later (StandsFor z.event.now) k (dedup_from are_of_one x xs) (next x (itself x))

runs : (xs : List SeenPacket) (k l z : SeenPacket) → StandsFor l.event.now k → Stand (l ∷ xs) → (z ≡ l) ⊎ Contains xs z → Any (StandsFor z.event.now) (dedup_from are_of_one k xs)
runs xs k l z s h (inl e) = first_kept (StandsFor z.event.now) k xs (subst (λ (w : SeenPacket). StandsFor w.event.now k) (sym e) s)
runs [] k l z s h (inr c) = absurd (omega (arith, c.1))
runs (x ∷ xs) k l z s h (inr c) =
    mutual_at xs x k l z (are_of_one x k) refl s (h 0 x (omega arith)) (λ m t. runs xs m x z t (rest l (x ∷ xs) h) (cases x z xs c))

stands_in : (ps : List SeenPacket) (z : SeenPacket) → Stand ps → Contains ps z → Any (StandsFor z.event.now) (dedup are_of_one ps)
stands_in [] z h c = absurd (omega (arith, c.1))
stands_in (x ∷ xs) z h c = runs xs x x z (itself x) h (cases x z xs c)

-- ---- the lowest ones

pub among : (packets sorted : List SeenPacket) → IsPermutation packets sorted → All (Contains packets) (dedup are_of_one sorted)
among packets sorted same = All-dedup are_of_one (Contains packets) sorted (All-permutation (Contains packets) packets sorted same (All-contains_itself packets))

pub standing : (packets sorted : List SeenPacket) → IsPermutation packets sorted → IsSorted block_cmp sorted
    → ((k : ℕ) (d : SeenPacket) → k + 1 < length sorted → AreEqualSendings (get_or sorted k d) (get_or sorted (k + 1) d))
    → All (λ (p : SeenPacket). Any (StandsFor p.event.now) (dedup are_of_one sorted)) packets
standing packets sorted same order equal =
    let all : Stand sorted = λ k d small. (order k d (omega arith) small, equal k d small) in
    let each : All (Contains sorted) sorted = All-contains_itself sorted in
    All-permutation (λ (p : SeenPacket). Any (StandsFor p.event.now) (dedup are_of_one sorted)) sorted packets (IsPermutation-sym packets sorted same)
    (λ k d small. stands_in sorted (get_or sorted k d) all (each k d small))

-- strictly by kind and sequence, no two are of one kind and sequence
pub distinct : (packets : List SeenPacket) → IsStrictlySortedBy packet_cmp packets → IsDistinct are_of_one packets
distinct packets up =
    let far : IsDistinct (eq_by_cmp packet_cmp) packets = IsDistinct-from_sorted packet_cmp packets up in
    subst (λ e. IsDistinct e packets) (λ i p q. sym (ties p q) i) far

pub rises : (packets : List SeenPacket) → IsStrictlySortedBy packet_cmp packets → IsSorted packet_cmp packets
rises packets up =
    λ k d low small. ap is_lt
    (total.antisymm (get_or packets (k + 1) d) (get_or packets k d) ∙ ap ordering_reverse (Less-from_sorted packet_cmp packets k (k + 1) d up (omega arith) small))

pub strictly : (sorted : List SeenPacket) → IsSorted block_cmp sorted → IsStrictlySortedBy packet_cmp (dedup are_of_one sorted)
strictly sorted order =
    let up : IsSorted packet_cmp sorted = λ k d low small. earlier _ _ (order k d low small) in
    IsStrictlySortedBy-dedup total ties sorted up

pub once : (sorted : List SeenPacket) → IsSorted block_cmp sorted → IsDistinct are_of_one (dedup are_of_one sorted)
once sorted order = distinct (dedup are_of_one sorted) (strictly sorted order)

-- two that differ are among the packets in another order, too
pub two_too : (xs ys : List SeenPacket) (e : ImportError) → IsPermutation xs ys → AreTwoOf xs e → AreTwoOf ys e
two_too xs ys (errors.CheckError problem) same (name, (k, p, small, is, other)) =
    let Two : SeenPacket → SeenPacket → Type 0 = NamesTwo (errors.CheckError problem) in
    (name, any_among (λ (q : SeenPacket). Any (Two q) ys) xs ys same (k, p, small, is, any_among (Two p) xs ys same other))
two_too xs ys errors.NoMemory same two = tt

pub ruleset lowering = (among, standing, once)
