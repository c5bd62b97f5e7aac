-- How many sequences of a path from the first on are finished: that only grows.
use Rattle.std.proofs.Common.{◌≡◌, ℕ, zero, suc, ◌+◌, ◌<◌, ◌≤◌, Bool, true, false, cond, eqb, ltb, leb, ◌||◌, List, [], ◌∷◌, length, map, Option, Some, None, is_some, refl, sym, ap, ◌∙◌, subst, inl, inr, arith}
use Rattle.std.specs.List.{find, insert, prefix_len, range_with_len, count_by, AllByRecursion}
use Rattle.std.specs.List.Sorted.{IsStrictlyIncreasing}
use Rattle.std.specs.Option.{option_map, option_map_or}
use Rattle.std.proofs.lemmas.Bool.{cases_eq, ne_eqb, ltb-false, leb-false, true≢false, false≢true}
use Rattle.std.proofs.lemmas.List.{length-map}
use Rattle.std.proofs.lemmas.List.Elements.{All-from_recursion, recursion_from_All}
use Rattle.std.proofs.lemmas.Option.{none-some, slice_get-get_or}
use Rattle.rb_book.specs.Search.{IsKnownPlace}
use Rattle.rb_script_types.specs.declared.refusal.Refusal.TheVariants.{OutOfOrder, Repeat, Full}
use Rattle.rb_scan.specs.Packet.{Packet, is_finished}
use Rattle.rb_scan.specs.Path.{sequences_of}
use Rattle.rb_scan.specs.declared.message.Kind.TheVariants.{Receive, Acknowledge, Timeout}
use Rattle.rb_core_state.specs.Room.{next_among, next_of, IsPathWithRoom}
use Rattle.rb_core_state.specs.Marked.{mark_by}
use Rattle.rb_core_model.specs.Standing.{PathState, marked, with_mark, with_packet, max_packets, view_of_path, sent_refusal}
use Rattle.rb_core_state.specs.declared.mark.Mark.{Mark}
use Rattle.rb_core_state.specs.declared.mark.Mark.TheVariants.{Received, Written, Cleared, Settled}
use Rattle.rb_core_model.proofs.Marks.{has, find_map, marked_sequence, insert_other, mark_of_sequence}
use Rattle.rb_core_model.proofs.Options.{passes}
use Rattle.rb_core_model.proofs.Rising.{new_rises, all_insert}

-- ---- numbers that pass a test one after another

module _ (g : ℕ → Bool) where
  abbrev pub passed : ℕ → ℕ → ℕ
  passed a n = prefix_len g (range_with_len a n)

  pub upto : (a n : ℕ) → passed a n ≤ n
  upto a zero = omega arith
  upto a (suc n) = go (g a) (upto (a + 1) n)
    where
      go : (b : Bool) → passed (a + 1) n ≤ n → cond b (1 + passed (a + 1) n) 0 ≤ suc n
      go true rest = omega arith
      go false rest = omega arith

  pub stops : (a n k s : ℕ) → k ≤ passed a n → k < n → s ≡ a + k → g s ≡ false → passed a n ≡ k
  stops a zero k s le lt at fails = absurd (omega arith)
  stops a (suc n) zero s le lt at fails =
      let here : s ≡ a = omega arith in
      ap (λ b. cond b (1 + passed (a + 1) n) 0) (ap g (sym here) ∙ fails)
  stops a (suc n) (suc k) s le lt at fails = go (g a) le (λ more. stops (a + 1) n k s more (omega arith) (omega arith) fails)
    where
      go : (b : Bool) → suc k ≤ cond b (1 + passed (a + 1) n) 0 → (k ≤ passed (a + 1) n → passed (a + 1) n ≡ k) → cond b (1 + passed (a + 1) n) 0 ≡ suc k
      go true h rest = let e = rest (omega arith) in omega arith
      go false h rest = absurd (omega arith)

  pub goes_on : (a n k s : ℕ) → k ≤ passed a n → k < n → s ≡ a + k → g s ≡ true → k + 1 ≤ passed a n
  goes_on a zero k s le lt at ok = absurd (omega arith)
  goes_on a (suc n) zero s le lt at ok =
      let here : s ≡ a = omega arith in
      subst (λ b. 0 + 1 ≤ cond b (1 + passed (a + 1) n) 0) (sym (ap g (sym here) ∙ ok)) (omega arith)
  goes_on a (suc n) (suc k) s le lt at ok = go (g a) le (λ more. goes_on (a + 1) n k s more (omega arith) (omega arith) ok)
    where
      go : (b : Bool) → suc k ≤ cond b (1 + passed (a + 1) n) 0 → (k ≤ passed (a + 1) n → k + 1 ≤ passed (a + 1) n) → suc k + 1 ≤ cond b (1 + passed (a + 1) n) 0
      go true h rest = let e = rest (omega arith) in omega arith
      go false h rest = absurd (omega arith)

pub passes_more : (g h : ℕ → Bool) → ((s : ℕ) → g s ≡ true → h s ≡ true) → (a n m : ℕ) → n ≤ m → passed g a n ≤ passed h a m
passes_more g h more a zero m le = omega arith
passes_more g h more a (suc n) zero le = absurd (omega arith)
passes_more g h more a (suc n) (suc m) le = go (g a) refl (passes_more g h more (a + 1) n m (omega arith))
  where
    go : (b : Bool) → g a ≡ b → passed g (a + 1) n ≤ passed h (a + 1) m → cond b (1 + passed g (a + 1) n) 0 ≤ passed h a (suc m)
    go true at rest = subst (λ b. 1 + passed g (a + 1) n ≤ cond b (1 + passed h (a + 1) m) 0) (sym (more a at)) (omega arith)
    go false at rest = omega arith

-- ---- finished packets

abbrev pub done_at : List Packet → ℕ → Bool
done_at ps s = option_map_or (λ q. is_finished q) (find (has s) ps) false

-- a mark leaves the sequence, and what is finished
pub mark_sequence : (m : Mark) (q : Packet) → (mark_by m q).sequence ≡ q.sequence
mark_sequence (Received block) q = refl
mark_sequence (Written block) q = refl
mark_sequence Cleared q = refl
mark_sequence (Settled kind) q = mark_of_sequence kind q

mark_finished : (m : Mark) (q : Packet) → is_finished q ≡ true → is_finished (mark_by m q) ≡ true
mark_finished (Received block) q e = refl
mark_finished (Written block) q e = e
mark_finished Cleared q e = go (is_some q.received)
  where
    go : (b : Bool) → ((b || true) || q.receive_settled) ≡ true
    go true = refl
    go false = refl
mark_finished (Settled Receive) q e = go (is_some q.received) q.cleared
  where
    go : (a b : Bool) → ((a || b) || true) ≡ true
    go true b = refl
    go false true = refl
    go false false = refl
mark_finished (Settled Acknowledge) q e = e
mark_finished (Settled Timeout) q e = e

marked_finished : (m : Mark) (s : ℕ) (q : Packet) → is_finished q ≡ true → is_finished (marked (mark_by m) s q) ≡ true
marked_finished m s q e = go (eqb q.sequence s)
  where
    go : (b : Bool) → is_finished (cond b (mark_by m q) q) ≡ true
    go true = mark_finished m q e
    go false = e

pub next_marked : (m : Mark) (s : ℕ) (p : PathState) → next_of p ≤ next_of (with_mark (mark_by m) s p)
next_marked m s p =
    let same = length-map p.packets (marked (mark_by m) s) in
    let more = passes_more (done_at p.packets) (done_at (map (marked (mark_by m) s) p.packets)) still p.first (length p.packets) (length (map (marked (mark_by m) s) p.packets)) (omega arith) in
    omega arith
  where
    go : (o : Option Packet) → option_map_or (λ q. is_finished q) o false ≡ true → option_map_or (λ q. is_finished q) (option_map (marked (mark_by m) s) o) false ≡ true
    go None e = absurd (false≢true e)
    go (Some q) e = marked_finished m s q e

    still : (n : ℕ) → done_at p.packets n ≡ true → done_at (map (marked (mark_by m) s) p.packets) n ≡ true
    still n e =
        ap (λ o. option_map_or (λ (q : Packet). is_finished q) o false) (find_map (marked (mark_by m) s) (marked_sequence (mark_by m) (mark_sequence m) s) n p.packets)
        ∙ go (find (has n) p.packets) e

long_insert : {X : Type 0} (xs : List X) (n : ℕ) (x : X) → length (insert xs n x) ≡ suc (length xs)
long_insert xs zero x = refl
long_insert [] (suc n) x = refl
long_insert (y ∷ xs) (suc n) x = ap suc (long_insert xs n x)

pub next_placed : (q : Packet) (p : PathState) → find (has q.sequence) p.packets ≡ None → next_of p ≤ next_of (with_packet q p)
next_placed q p new = go (count_by (λ (other : Packet). ltb other.sequence q.sequence) p.packets)
  where
    still : (i n : ℕ) → done_at p.packets n ≡ true → done_at (insert p.packets i q) n ≡ true
    still i n e = elim (cases_eq q.sequence n) [
      | inl same ↦ absurd (false≢true (sym (ap (λ o. option_map_or (λ (x : Packet). is_finished x) o false) (ap (λ s. find (has s) p.packets) (sym same) ∙ new)) ∙ e))
      | inr other ↦ ap (λ o. option_map_or (λ (x : Packet). is_finished x) o false) (insert_other (has n) p.packets i q (ne_eqb q.sequence n other)) ∙ e
    ]

    go : (i : ℕ) → next_of p ≤ next_of (record p { packets = insert p.packets i q })
    go i =
        let long = long_insert p.packets i q in
        let more = passes_more (done_at p.packets) (done_at (insert p.packets i q)) (still i) p.first (length p.packets) (length (insert p.packets i q)) (omega arith) in
        omega arith

-- ---- what is held of a path stays so

sequences_marked : (f : Packet → Packet) → ((q : Packet) → (f q).sequence ≡ q.sequence) → (s : ℕ) (ps : List Packet) → sequences_of (map (marked f s) ps) ≡ sequences_of ps
sequences_marked f same s [] = refl
sequences_marked f same s (q ∷ ps) = λ i. marked_sequence f same s q i ∷ sequences_marked f same s ps i

from_marked : (f : Packet → Packet) → ((q : Packet) → (f q).sequence ≡ q.sequence) → (s first : ℕ) (ps : List Packet) → AllByRecursion (λ (q : Packet). first ≤ q.sequence) ps → AllByRecursion (λ (q : Packet). first ≤ q.sequence) (map (marked f s) ps)
from_marked f same s first [] all = tt
from_marked f same s first (q ∷ ps) all = (subst (λ n. first ≤ n) (sym (marked_sequence f same s q)) all.0, from_marked f same s first ps all.1)

pub held_marked : (m : Mark) (s count : ℕ) (p : PathState) → IsPathWithRoom p count → IsPathWithRoom (with_mark (mark_by m) s p) count
held_marked m s count p h = record {
  rising = subst IsStrictlyIncreasing (sym (sequences_marked (mark_by m) (mark_sequence m) s p.packets)) h.rising;
  from_first = All-from_recursion (λ (q : Packet). p.first ≤ q.sequence) _ (from_marked (mark_by m) (mark_sequence m) s p.first p.packets (recursion_from_All (λ (q : Packet). p.first ≤ q.sequence) p.packets h.from_first));
  few = (let long = length-map p.packets (marked (mark_by m) s) in let few = h.few in omega arith);
  run = (let more = next_marked m s p in let run = h.run in omega arith);
}

pub held_placed : (q : Packet) (count : ℕ) (p : PathState) → find (has q.sequence) p.packets ≡ None → p.first ≤ q.sequence → length p.packets < max_packets → IsPathWithRoom p count → IsPathWithRoom (with_packet q p) count
held_placed q count p new above room h = record {
  rising = new_rises (λ (x : Packet). x.sequence) p.packets q h.rising new;
  from_first = All-from_recursion (λ (x : Packet). p.first ≤ x.sequence) _ (all_insert (λ (x : Packet). p.first ≤ x.sequence) p.packets _ q above (recursion_from_All (λ (x : Packet). p.first ≤ x.sequence) p.packets h.from_first));
  few = (let long = long_insert p.packets (count_by (λ (other : Packet). ltb other.sequence q.sequence) p.packets) q in omega arith);
  run = (let more = next_placed q p new in let run = h.run in omega arith);
}

-- ---- counting on

pub run_within : (first : ℕ) (ps : List Packet) (count : ℕ) → first + count ≤ next_among first ps → count ≤ length ps
run_within first ps count run = (let most = upto (done_at ps) first (length ps) in omega arith)

pub run_more : (first : ℕ) (ps : List Packet) (count s : ℕ) → first + count ≤ next_among first ps → count < length ps → s ≡ first + count → done_at ps s ≡ true → first + (count + 1) ≤ next_among first ps
run_more first ps count s run lt at done = (let more = goes_on (done_at ps) first (length ps) count s (omega arith) lt at done in omega arith)

pub run_stops : (first : ℕ) (ps : List Packet) (count s : ℕ) → first + count ≤ next_among first ps → count < length ps → s ≡ first + count → done_at ps s ≡ false → next_among first ps ≡ first + count
run_stops first ps count s run lt at open_is = (let same = stops (done_at ps) first (length ps) count s (omega arith) lt at open_is in omega arith)

pub run_full : (first : ℕ) (ps : List Packet) (count : ℕ) → first + count ≤ next_among first ps → length ps ≤ count → next_among first ps ≡ first + count
run_full first ps count run le = (let most = upto (done_at ps) first (length ps) in omega arith)

-- ---- a packet that is sent

none_some : {X : Type 0} (o : Option X) → is_some o ≡ false → o ≡ None
none_some None e = refl
none_some (Some x) e = absurd (true≢false e)

-- one that is accepted is new, from the first on, and there is room for it
pub sent_held : (q : Packet) (count : ℕ) (p : PathState) → sent_refusal (view_of_path [] p) q.sequence ≡ None → IsPathWithRoom p count → IsPathWithRoom (with_packet q p) count
sent_held q count p accepted h =
    let one = passes (ltb q.sequence p.first) OutOfOrder _ accepted in
    let two = passes (is_some (find (has q.sequence) p.packets)) Repeat _ one.1 in
    let three = passes (leb max_packets (length p.packets)) Full None two.1 in
    held_placed q count p (none_some (find (has q.sequence) p.packets) two.0) (ltb-false q.sequence p.first one.0) (below (leb max_packets (length p.packets)) refl three.0) h
  where
    below : (b : Bool) → leb max_packets (length p.packets) ≡ b → b ≡ false → length p.packets < max_packets
    below true at e = absurd (true≢false e)
    below false at e = leb-false max_packets (length p.packets) at

-- so it isn't known already
pub sent_new : (q : Packet) (p : PathState) (k : ℕ) → sent_refusal (view_of_path [] p) q.sequence ≡ None → IsKnownPlace (has q.sequence) p.packets k → ⊥
sent_new q p k accepted known =
    let one = passes (ltb q.sequence p.first) OutOfOrder _ accepted in
    let two = passes (is_some (find (has q.sequence) p.packets)) Repeat _ one.1 in
    none-some _ (sym (none_some (find (has q.sequence) p.packets) two.0) ∙ known.found ∙ slice_get-get_or p.packets k q known.within)
