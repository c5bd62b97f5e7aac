-- A path without packets at its front that are over owes the same, and finds the same packets from its first sequence on.
use Rattle.std.proofs.Common.{◌≡◌, ℕ, zero, suc, ◌+◌, ◌<◌, ◌≤◌, ◌==◌, Bool, true, false, cond, not, ◌&&◌, ◌||◌, List, [], ◌∷◌, ◌++◌, length, map, drop, Option, Some, None, is_some, refl, sym, ap, ◌∙◌, subst, inl, inr, arith, if◌then◌else◌}
use Rattle.std.specs.List.{cons_option, filter, filter_map, find, prefix_len, range_with_len}
use Rattle.std.specs.Option.{option_map, option_map_or, option_and_then, option_to_list, some_prefix}
use Rattle.std.proofs.lemmas.Bool.{and_parts, cases_eq, eq-eqb, eqb-true, ne_eqb}
use Rattle.rb_base.specs.declared.gate.Part.{Part}
use Rattle.rb_base.specs.declared.gate.Part.TheVariants.{Packets, Channel}
use Rattle.rb_scan.specs.Expiry.{is_expired, timeout_floor}
use Rattle.rb_scan.specs.Owed.{floor_of, expires_for, since_for, timeout_for, message_of, message_at, packet_at, is_done, is_done_at, next_sequence, run, open_messages, messages, owed_part}
use Rattle.rb_scan.specs.Packet.{Packet, is_finished, is_cleared, is_in_flight}
use Rattle.rb_scan.specs.Path.{Path}
use Rattle.rb_scan.specs.declared.message.Kind.{Kind}
use Rattle.rb_scan.specs.declared.message.Kind.TheVariants.{Receive, Acknowledge, Timeout}
use Rattle.rb_scan.specs.declared.path.Order.{Order}
use Rattle.rb_scan.specs.declared.path.Order.TheVariants.{Ordered, Unordered}
use Rattle.rb_core_model.specs.Over.{is_over}
use Rattle.rb_core_model.proofs.Over.{AreOver, found_later}

-- ---- what is over

or_true : (b : Bool) → (b || true) ≡ true
or_true true = refl
or_true false = refl

pub over_cleared : (order : Order) (q : Packet) → is_over order q ≡ true → is_cleared q ≡ true
over_cleared Unordered q over = over
over_cleared Ordered q over = (and_parts (is_finished q) (is_cleared q) over).1

pub over_landed : (order : Order) (q : Packet) → is_over order q ≡ true → is_in_flight q ≡ false
over_landed order q over = ap (λ c. not (is_finished q || c)) (over_cleared order q over) ∙ ap not (or_true (is_finished q))

over_done : (kind : Kind) (q : Packet) → is_over Ordered q ≡ true → is_done kind q ≡ true
over_done Receive q over = (and_parts (is_finished q) (is_cleared q) over).0
over_done Acknowledge q over = (and_parts (is_finished q) (is_cleared q) over).1
over_done Timeout q over = (and_parts (is_finished q) (is_cleared q) over).0

-- it owes nothing
no_floor : (records : List (ℕ × ℕ)) (kind : Kind) (q : Packet) → is_cleared q ≡ true → is_in_flight q ≡ false → floor_of records kind q ≡ None
no_floor records Receive q cleared landed = ap (λ f. if f && not (is_expired records q) then Some (q.sent + 1) else None) landed
no_floor records Acknowledge q cleared landed = ap (λ c. if c then None else option_map (λ (block : ℕ). block + 1) q.written) cleared
no_floor records Timeout q cleared landed = ap (λ f. if f && is_expired records q then timeout_floor records q else None) landed

none_owed : (records : List (ℕ × ℕ)) (kind : Kind) (order : Order) (s n : ℕ) (qs : List Packet) → AreOver order s n qs → filter_map (message_of records kind) (drop n qs) ≡ filter_map (message_of records kind) qs
none_owed records kind order s zero qs over = refl
none_owed records kind order s (suc n) [] over = refl
none_owed records kind order s (suc n) (q ∷ qs) over =
    none_owed records kind order (s + 1) n qs over.3
    ∙ sym (ap (λ o. cons_option (option_map (λ (floor : ℕ). record { kind = kind; sequence = q.sequence; floor = floor; expires = expires_for kind q; since = since_for kind q; timeout = timeout_for kind q }) o) (filter_map (message_of records kind) qs))
    (no_floor records kind q (over_cleared order q over.1) (over_landed order q over.1)))

-- ---- numbers one after another

-- those that pass at first are counted
prefix_passes : (g : ℕ → Bool) (s n m t u : ℕ) → n + m ≡ t → s + n ≡ u → ((k : ℕ) → s ≤ k → k < u → g k ≡ true) → prefix_len g (range_with_len s t) ≡ n + prefix_len g (range_with_len u m)
prefix_passes g s zero m t u total to all =
    let e : t ≡ m = omega arith in
    let f : s ≡ u = omega arith in
    (λ i. prefix_len g (range_with_len (f i) (e i))) ∙ omega arith
prefix_passes g s (suc n) m zero u total to all = absurd (omega arith)
prefix_passes g s (suc n) m (suc t) u total to all =
    let rest = prefix_passes g (s + 1) n m t u (omega arith) (omega arith) (λ k low high. all k (omega arith) high) in
    ap (λ b. cond b (1 + prefix_len g (range_with_len (s + 1) t)) 0) (all s (omega arith) (omega arith)) ∙ omega (arith, rest)

prefix_same : (g h : ℕ → Bool) (s m : ℕ) → ((k : ℕ) → s ≤ k → g k ≡ h k) → prefix_len g (range_with_len s m) ≡ prefix_len h (range_with_len s m)
prefix_same g h s zero same = refl
prefix_same g h s (suc m) same = λ i. cond (same s (omega arith) i) (1 + prefix_same g h (s + 1) m (λ k low. same k (omega arith)) i) 0

map_same : {X : Type 0} (f h : ℕ → X) (s m : ℕ) → ((k : ℕ) → s ≤ k → f k ≡ h k) → map f (range_with_len s m) ≡ map h (range_with_len s m)
map_same f h s zero same = refl
map_same f h s (suc m) same = λ i. same s (omega arith) i ∷ map_same f h (s + 1) m (λ k low. same k (omega arith)) i

-- a run that ends within so many numbers isn't longer among more
run_short : {X : Type 0} (f : ℕ → Option X) (a k t : ℕ) → k ≤ t → (((j : ℕ) → a ≤ j → j ≤ a + k → is_some (f j) ≡ true) → ⊥)
    → some_prefix (map f (range_with_len a t)) ≡ some_prefix (map f (range_with_len a k))
run_short f a zero zero le ends = refl
run_short f a (suc k) zero le ends = absurd (omega arith)
run_short {X} f a zero (suc t) le ends = go (f a) refl
  where
    go : (o : Option X) → f a ≡ o → some_prefix (o ∷ map f (range_with_len (a + 1) t)) ≡ []
    go None e = refl
    go (Some x) e = absurd (ends (λ j low high. (let same : j ≡ a = omega arith in ap (λ i. is_some (f i)) same ∙ ap (λ (o : Option X). is_some o) e)))
run_short {X} f a (suc k) (suc t) le ends = go (f a) refl (run_short f (a + 1) k t (omega arith))
  where
    go : (o : Option X) → f a ≡ o → ((((j : ℕ) → a + 1 ≤ j → j ≤ a + 1 + k → is_some (f j) ≡ true) → ⊥) → some_prefix (map f (range_with_len (a + 1) t)) ≡ some_prefix (map f (range_with_len (a + 1) k)))
        → some_prefix (o ∷ map f (range_with_len (a + 1) t)) ≡ some_prefix (o ∷ map f (range_with_len (a + 1) k))
    go None e rest = refl
    go (Some x) e rest = ap (λ xs. x ∷ xs) (rest (λ all. ends (λ j low high. elim (cases_eq j a) [
      | inl same ↦ ap (λ i. is_some (f i)) same ∙ ap (λ (o : Option X). is_some o) e
      | inr other ↦ all j (omega arith) (omega arith)
    ])))

-- ---- as many numbers as find packets

at : List Packet → ℕ → Option Packet
at qs s = find (λ (q : Packet). q.sequence == s) qs

abbrev but : ℕ → List Packet → List Packet
but s qs = filter (λ (q : Packet). not (q.sequence == s)) qs

at_most : (s : ℕ) (qs : List Packet) → length (but s qs) ≤ length qs
at_most s [] = omega arith
at_most s (q ∷ qs) = go (q.sequence == s) (at_most s qs)
  where
    go : (b : Bool) → length (but s qs) ≤ length qs → length (cond (not b) (q ∷ but s qs) (but s qs)) ≤ suc (length qs)
    go true le = omega arith
    go false le = omega arith

fewer : (s : ℕ) (qs : List Packet) → is_some (at qs s) ≡ true → length (but s qs) < length qs
unfolding at
fewer s [] e = absurd (cc)
fewer s (q ∷ qs) e = go (q.sequence == s) e (fewer s qs)
  where
    go : (b : Bool) → is_some (cond b (Some q) (find (λ (x : Packet). x.sequence == s) qs)) ≡ true → (is_some (find (λ (x : Packet). x.sequence == s) qs) ≡ true → length (but s qs) < length qs)
        → length (cond (not b) (q ∷ but s qs) (but s qs)) < suc (length qs)
    go true f rest = (let le = at_most s qs in omega arith)
    go false f rest = (let lt = rest f in omega arith)

at_but : (s k : ℕ) (qs : List Packet) → (k ≡ s → ⊥) → at (but s qs) k ≡ at qs k
unfolding at
at_but s k [] other = refl
at_but s k (q ∷ qs) other = go (q.sequence == s) refl (at_but s k qs other)
  where
    go : (b : Bool) → (q.sequence == s) ≡ b → find (λ (x : Packet). x.sequence == k) (but s qs) ≡ find (λ (x : Packet). x.sequence == k) qs
        → find (λ (x : Packet). x.sequence == k) (cond (not b) (q ∷ but s qs) (but s qs)) ≡ cond (q.sequence == k) (Some q) (find (λ (x : Packet). x.sequence == k) qs)
    go true e rest =
        let is : q.sequence ≡ s = eqb-true q.sequence s e in
        rest ∙ ap (λ b. cond b (Some q) (find (λ (x : Packet). x.sequence == k) qs)) (sym (ne_eqb q.sequence k (λ f. other (sym f ∙ is))))
    go false e rest = ap (λ o. cond (q.sequence == k) (Some q) o) rest

found_few : (qs : List Packet) (a k : ℕ) → ((j : ℕ) → a ≤ j → j < a + k → is_some (at qs j) ≡ true) → k ≤ length qs
found_few qs a zero all = omega arith
found_few qs a (suc k) all =
    let lt = fewer (a + k) qs (all (a + k) (omega arith) (omega arith)) in
    let rest = found_few (but (a + k) qs) a k (λ j low high. ap (λ (o : Option Packet). is_some o) (at_but (a + k) j qs (λ e. omega arith)) ∙ all j low (omega arith)) in
    omega arith

-- ---- a path without packets that are over

length_over : (order : Order) (s n : ℕ) (qs : List Packet) → AreOver order s n qs → n + length (drop n qs) ≡ length qs
length_over order s zero qs over = omega arith
length_over order s (suc n) [] over = absurd over
length_over order s (suc n) (q ∷ qs) over = (let rest = length_over order (s + 1) n qs over.3 in omega arith)

-- each of their sequences is done
done_first : (kind : Kind) (s n : ℕ) (qs : List Packet) → AreOver Ordered s n qs → (k : ℕ) → s ≤ k → k < s + n → option_map_or (is_done kind) (find (λ (q : Packet). q.sequence == k) qs) false ≡ true
done_first kind s zero qs over k low high = absurd (omega arith)
done_first kind s (suc n) [] over k low high = absurd over
done_first kind s (suc n) (q ∷ qs) over k low high = elim (cases_eq k s) [
  | inl same ↦
      ap (λ b. option_map_or (is_done kind) (cond b (Some q) (find (λ (x : Packet). x.sequence == k) qs)) false) (eq-eqb q.sequence k (over.0 ∙ sym same)) ∙ over_done kind q over.1
  | inr other ↦
      ap (λ b. option_map_or (is_done kind) (cond b (Some q) (find (λ (x : Packet). x.sequence == k) qs)) false) (ne_eqb q.sequence k (λ e. other (sym e ∙ over.0)))
      ∙ done_first kind (s + 1) n qs over.3 k (omega arith) (omega arith)
]

abbrev pub later : ℕ → Path → Path
later n v = record v { first = v.first + n; packets = drop n v.packets }

module _ (v : Path) (n : ℕ) (over : AreOver v.order v.first n v.packets) where
  -- a later sequence, or one that is lower than all, finds the same packet
  pub at_later : (k : ℕ) → v.first + n ≤ k → packet_at (later n v) k ≡ packet_at v k
  at_later k le = found_later v.order v.first n v.packets k over le

  module _ (ordered : v.order ≡ Ordered) where
    over_here : AreOver Ordered v.first n v.packets
    over_here = subst (λ (order : Order). AreOver order v.first n v.packets) ordered over

    pub next_later : (kind : Kind) → next_sequence v kind ≡ next_sequence (later n v) kind
    next_later kind =
        let long = length_over v.order v.first n v.packets over in
        let counted = prefix_passes (is_done_at v kind) v.first n (length (drop n v.packets)) (length v.packets) (v.first + n) long refl (done_first kind v.first n v.packets over_here) in
        let same = prefix_same (is_done_at v kind) (is_done_at (later n v) kind) (v.first + n) (length (drop n v.packets)) (λ k low. ap (λ o. option_map_or (is_done kind) o false) (sym (at_later k low))) in
        omega (arith, counted, same)

    low : (kind : Kind) → v.first + n ≤ next_sequence (later n v) kind
    low kind = omega arith

    message_later : (kind : Kind) (k : ℕ) → v.first + n ≤ k → message_at v kind k ≡ message_at (later n v) kind k
    message_later kind k le = ap (option_and_then (message_of v.destination kind)) (sym (at_later k le))

    found_by : (kind : Kind) (o : Option Packet) → is_some (option_and_then (message_of v.destination kind) o) ≡ true → is_some o ≡ true
    found_by kind None e = e
    found_by kind (Some q) e = refl

    run_later : (kind : Kind) → run v kind ≡ run (later n v) kind
    unfolding at
    run_later kind =
        let long = length_over v.order v.first n v.packets over in
        let next = next_sequence (later n v) kind in
        let above = low kind in
        (λ i. some_prefix (map (message_at v kind) (range_with_len (next_later kind i) (length v.packets))))
        ∙ ap some_prefix (map_same (message_at v kind) (message_at (later n v) kind) next (length v.packets) (λ k le. message_later kind k (omega arith)))
        ∙ run_short (message_at (later n v) kind) next (length (drop n v.packets)) (length v.packets) (omega (arith, long))
        (λ all. let few = found_few (drop n v.packets) next (suc (length (drop n v.packets))) (λ j from to. found_by kind (packet_at (later n v) j) (all j from (omega arith))) in omega arith)

    timeout_later : option_to_list (message_at v Timeout (next_sequence v Timeout)) ≡ option_to_list (message_at (later n v) Timeout (next_sequence (later n v) Timeout))
    timeout_later =
        ap (λ k. option_to_list (message_at v Timeout k)) (next_later Timeout)
        ∙ ap option_to_list (message_later Timeout (next_sequence (later n v) Timeout) (low Timeout))

    ordered_same : (kind : Kind) → open_messages Ordered v kind ≡ open_messages Ordered (later n v) kind
    ordered_same Receive = run_later Receive
    ordered_same Acknowledge = run_later Acknowledge
    ordered_same Timeout = timeout_later

  open_same : (order : Order) → v.order ≡ order → (kind : Kind) → open_messages order v kind ≡ open_messages order (later n v) kind
  open_same Unordered is kind = sym (none_owed v.destination kind v.order v.first n v.packets over)
  open_same Ordered is kind = ordered_same is kind

  kind_same : (kind : Kind) → messages v kind ≡ messages (later n v) kind
  kind_same kind = ap (λ ms. if v.closed then [] else ms) (open_same v.order refl kind)

  pub part_later : (part : Part) → owed_part v part ≡ owed_part (later n v) part
  part_later Packets = kind_same Receive
  part_later Channel = λ i. kind_same Acknowledge i ++ kind_same Timeout i
