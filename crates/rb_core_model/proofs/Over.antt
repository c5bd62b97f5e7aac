-- The packets that are over at the front of a path, and what is left without them.
use Rattle.std.proofs.Common.{◌≡◌, ℕ, zero, suc, ◌+◌, ◌<◌, ◌≤◌, ◌^◌, Bool, true, false, cond, eqb, nat_lt, nat_le, ◌&&◌, List, [], ◌∷◌, drop, Some, refl, sym, ap, ◌∙◌, subst, arith}
use Rattle.std.specs.List.{filter, find, AllByRecursion}
use Rattle.std.specs.List.Sorted.{IsStrictlyIncreasing}
use Rattle.std.proofs.lemmas.Bool.{and_parts, eq-eqb, eqb-true, le-leb, lt-leb, ltb-true, ne_eqb}
use Rattle.rb_book.proofs.Rising.{Up, Up-from_increasing, increasing_from_up}
use Rattle.rb_scan.specs.Packet.{Packet}
use Rattle.rb_scan.specs.Path.{sequences_of}
use Rattle.rb_scan.specs.declared.path.Order.{Order}
use Rattle.rb_core_model.specs.Over.{is_over, is_over_at, over_from}
use Rattle.rb_core_model.proofs.Owed.{IsFound}

-- the first packets, so many, are over and have the sequences from s on
abbrev pub AreOver : Order → ℕ → ℕ → List Packet → Type 0
AreOver order s zero qs = Unit {0}
AreOver order s (suc n) [] = ⊥
AreOver order s (suc n) (q ∷ qs) = (q.sequence ≡ s) × (is_over order q ≡ true) × (nat_lt (s + 1) (2 ^ 63) ≡ true) × AreOver order (s + 1) n qs

-- those that are counted are
pub counted_over : (order : Order) (s n : ℕ) (qs : List Packet) → n ≤ over_from order s qs → AreOver order s n qs
counted_over order s zero qs le = tt
counted_over order s (suc n) [] le = absurd (omega (arith, le))
counted_over order s (suc n) (q ∷ qs) le = go (is_over_at order (s, q)) refl le (counted_over order (s + 1) n qs)
  where
    go : (b : Bool) → is_over_at order (s, q) ≡ b → suc n ≤ cond b (1 + over_from order (s + 1) qs) 0 → (n ≤ over_from order (s + 1) qs → AreOver order (s + 1) n qs)
        → AreOver order s (suc n) (q ∷ qs)
    go false e more rest = absurd (omega (arith, more))
    go true e more rest =
        let both = and_parts ((eqb q.sequence s) && nat_lt (s + 1) (2 ^ 63)) (is_over order q) e in
        let first = and_parts (eqb q.sequence s) (nat_lt (s + 1) (2 ^ 63)) both.0 in
        (eqb-true q.sequence s first.0, both.1, first.1, rest (omega (arith, more)))

-- and they are counted
pub over_counted : (order : Order) (s n : ℕ) (qs : List Packet) → AreOver order s n qs → n ≤ over_from order s qs
over_counted order s zero qs over = omega arith
over_counted order s (suc n) [] over = absurd over
over_counted order s (suc n) (q ∷ qs) over =
    let rest = over_counted order (s + 1) n qs over.3 in
    let here : is_over_at order (s, q) ≡ true = λ i. (eq-eqb q.sequence s over.0 i && over.2 i) && over.1 i in
    subst (λ b. suc n ≤ cond b (1 + over_from order (s + 1) qs) 0) (sym here) (omega (arith, rest))

-- ---- what is left

-- a later sequence finds the same packet
pub found_later : (order : Order) (s n : ℕ) (qs : List Packet) (k : ℕ) → AreOver order s n qs → s + n ≤ k
    → find (λ (q : Packet). eqb q.sequence k) (drop n qs) ≡ find (λ (q : Packet). eqb q.sequence k) qs
found_later order s zero qs k over le = refl
found_later order s (suc n) [] k over le = refl
found_later order s (suc n) (q ∷ qs) k over le =
    let other : eqb q.sequence k ≡ false = ne_eqb q.sequence k (λ e. omega (arith, e, over.0, le)) in
    found_later order (s + 1) n qs k over.3 (omega (arith, le)) ∙ ap (λ b. cond b (Some q) (find (λ (x : Packet). eqb x.sequence k) qs)) (sym other)

-- and so does one that is lower than all that are over
pub found_lower : (order : Order) (s n : ℕ) (qs : List Packet) (k : ℕ) → AreOver order s n qs → k < s
    → find (λ (q : Packet). eqb q.sequence k) (drop n qs) ≡ find (λ (q : Packet). eqb q.sequence k) qs
found_lower order s zero qs k over lt = refl
found_lower order s (suc n) [] k over lt = refl
found_lower order s (suc n) (q ∷ qs) k over lt =
    let other : eqb q.sequence k ≡ false = ne_eqb q.sequence k (λ e. omega (arith, e, over.0, lt)) in
    found_lower order (s + 1) n qs k over.3 (omega (arith, lt)) ∙ ap (λ b. cond b (Some q) (find (λ (x : Packet). eqb x.sequence k) qs)) (sym other)

abbrev Rises : List Packet → Type 0
Rises qs = Up (λ (a b : Packet). a.sequence < b.sequence) qs

above : (s n : ℕ) (qs : List Packet) → n ≡ s → AllByRecursion (λ (q : Packet). n < q.sequence) qs → AllByRecursion (λ (q : Packet). s + 1 ≤ q.sequence) qs
above s n [] e all = tt
above s n (q ∷ qs) e all = (omega (arith, e, all.0), above s n qs e all.1)

-- it rises, and from that later sequence on
rises_later : (order : Order) (s n : ℕ) (qs : List Packet) → AreOver order s n qs → Rises qs → AllByRecursion (λ (q : Packet). s ≤ q.sequence) qs
    → Rises (drop n qs) × AllByRecursion (λ (q : Packet). s + n ≤ q.sequence) (drop n qs)
rises_later order s zero qs over up all = (up, let e : s ≡ s + 0 = omega arith in subst (λ k. AllByRecursion (λ (q : Packet). k ≤ q.sequence) qs) e all)
rises_later order s (suc n) [] over up all = (tt, tt)
rises_later order s (suc n) (q ∷ qs) over up all =
    let rest = rises_later order (s + 1) n qs over.3 up.1 (above s q.sequence qs over.0 up.0) in
    let e : s + 1 + n ≡ s + suc n = omega arith in
    (rest.0, subst (λ k. AllByRecursion (λ (x : Packet). k ≤ x.sequence) (drop n qs)) e rest.1)

pub rising_later : (order : Order) (s n : ℕ) (qs : List Packet) → AreOver order s n qs → IsStrictlyIncreasing (sequences_of qs) → AllByRecursion (λ (q : Packet). s ≤ q.sequence) qs
    → IsStrictlyIncreasing (sequences_of (drop n qs)) × AllByRecursion (λ (q : Packet). s + n ≤ q.sequence) (drop n qs)
rising_later order s n qs over rising all =
    let later = rises_later order s n qs over (Up-from_increasing (λ (q : Packet). q.sequence) qs rising) all in
    (increasing_from_up (λ (q : Packet). q.sequence) (drop n qs) later.0, later.1)

-- ---- in a list that rises each packet is the one that its sequence finds

found_behind : (q : Packet) (qs xs : List Packet) → AllByRecursion (λ (x : Packet). q.sequence < x.sequence) xs → AllByRecursion (IsFound qs) xs → AllByRecursion (IsFound (q ∷ qs)) xs
found_behind q qs [] higher all = tt
found_behind q qs (x ∷ xs) higher all = (
  ap (λ b. cond b (Some q) (find (λ (y : Packet). eqb y.sequence x.sequence) qs)) (ne_eqb q.sequence x.sequence (λ e. omega (arith, e, higher.0))) ∙ all.0,
  found_behind q qs xs higher.1 all.1,
)

found_up : (qs : List Packet) → Rises qs → AllByRecursion (IsFound qs) qs
found_up [] up = tt
found_up (q ∷ qs) up = (
  ap (λ b. cond b (Some q) (find (λ (y : Packet). eqb y.sequence q.sequence) qs)) (eq-eqb q.sequence q.sequence refl),
  found_behind q qs qs up.0 (found_up qs up.1),
)

pub rising_found : (qs : List Packet) → IsStrictlyIncreasing (sequences_of qs) → AllByRecursion (IsFound qs) qs
rising_found qs rising = found_up qs (Up-from_increasing (λ (q : Packet). q.sequence) qs rising)

-- ---- the later sequence is one, and what is left has no lower one

pub over_bound : (order : Order) (s n : ℕ) (qs : List Packet) → AreOver order s n qs → s < 2 ^ 63 → s + n < 2 ^ 63
over_bound order s zero qs over lt = let e : s ≡ s + 0 = omega arith in subst (λ k. k < 2 ^ 63) e lt
over_bound order s (suc n) [] over lt = absurd over
over_bound order s (suc n) (q ∷ qs) over lt =
    let e : s + 1 + n ≡ s + suc n = omega arith in
    subst (λ k. k < 2 ^ 63) e (over_bound order (s + 1) n qs over.3 (ltb-true (s + 1) (2 ^ 63) over.2))

all_high : (m : ℕ) (qs : List Packet) → AllByRecursion (λ (q : Packet). m ≤ q.sequence) qs → filter (λ (q : Packet). nat_le m q.sequence) qs ≡ qs
all_high m [] all = refl
all_high m (q ∷ qs) all =
    ap (λ b. cond b (q ∷ filter (λ (x : Packet). nat_le m x.sequence) qs) (filter (λ (x : Packet). nat_le m x.sequence) qs)) (le-leb m q.sequence all.0)
    ∙ ap (λ xs. q ∷ xs) (all_high m qs all.1)

low_go : (order : Order) (s n m : ℕ) (qs : List Packet) → AreOver order s n qs → s + n ≤ m → filter (λ (q : Packet). nat_le m q.sequence) qs ≡ filter (λ (q : Packet). nat_le m q.sequence) (drop n qs)
low_go order s zero m qs over le = refl
low_go order s (suc n) m [] over le = refl
low_go order s (suc n) m (q ∷ qs) over le =
    ap (λ b. cond b (q ∷ filter (λ (x : Packet). nat_le m x.sequence) qs) (filter (λ (x : Packet). nat_le m x.sequence) qs)) (lt-leb m q.sequence (omega (arith, over.0, le)))
    ∙ low_go order (s + 1) n m qs over.3 (omega (arith, le))

pub later_filter : (order : Order) (s n : ℕ) (qs : List Packet) → AreOver order s n qs → IsStrictlyIncreasing (sequences_of qs) → AllByRecursion (λ (q : Packet). s ≤ q.sequence) qs
    → filter (λ (q : Packet). nat_le (s + n) q.sequence) qs ≡ drop n qs
later_filter order s n qs over rising all =
    low_go order s n (s + n) qs over (omega arith) ∙ all_high (s + n) (drop n qs) (rising_later order s n qs over rising all).1
