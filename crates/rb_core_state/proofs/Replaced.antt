-- A mark changes the one packet of its sequence.
use Rattle.std.proofs.Common.{◌≡◌, ℕ, zero, suc, ◌<◌, Bool, true, false, cond, eqb, List, [], ◌∷◌, map, set, Option, Some, None, refl, sym, ap, ◌∙◌, arith}
use Rattle.std.specs.List.{find, slice_get, AllByRecursion}
use Rattle.std.specs.List.Sorted.{IsStrictlyIncreasing}
use Rattle.std.proofs.lemmas.Bool.{eq-eqb, ne_eqb}
use Rattle.std.proofs.lemmas.Option.{none-some, same_Some}
use Rattle.rb_scan.specs.Packet.{Packet}
use Rattle.rb_scan.specs.Path.{sequences_of}
use Rattle.rb_core_model.specs.Standing.{marked}
use Rattle.rb_book.proofs.Rising.{Up, Up-from_increasing}
use Rattle.rb_core_model.proofs.Marks.{has, all_at}
use Rattle.rb_core_model.proofs.Owed.{found_sequence}

one_marked : (f : Packet → Packet) (s : ℕ) (q : Packet) (b : Bool) → eqb q.sequence s ≡ b → marked f s q ≡ cond b (f q) q
one_marked f s q b e = ap (λ c. cond c (f q) q) e

above_marked : (f : Packet → Packet) (s : ℕ) (ps : List Packet) → AllByRecursion (λ (q : Packet). s < q.sequence) ps → map (marked f s) ps ≡ ps
above_marked f s [] all = refl
above_marked f s (q ∷ ps) all =
    let above : s < q.sequence = all.0 in
    let other : eqb q.sequence s ≡ false = ne_eqb q.sequence s (λ e. absurd (omega arith)) in
    λ i. one_marked f s q false other i ∷ above_marked f s ps all.1 i

at_marked : (f : Packet → Packet) (s : ℕ) (ps : List Packet) (k : ℕ) (q : Packet) → Up (λ a b. a.sequence < b.sequence) ps → slice_get ps k ≡ Some q → q.sequence ≡ s → map (marked f s) ps ≡ set ps k (f q)
at_marked f s [] k q up at is = absurd (none-some q at)
at_marked f s (p ∷ ps) zero q up at is =
    let same : p ≡ q = same_Some p q at in
    let here : eqb p.sequence s ≡ true = eq-eqb p.sequence s (ap (λ (x : Packet). x.sequence) same ∙ is) in
    let above : AllByRecursion (λ (x : Packet). s < x.sequence) ps = raise ps up.0 in
    λ i. (one_marked f s p true here ∙ ap f same) i ∷ above_marked f s ps above i
  where
    raise : (xs : List Packet) → AllByRecursion (λ (x : Packet). p.sequence < x.sequence) xs → AllByRecursion (λ (x : Packet). s < x.sequence) xs
    raise [] all = tt
    raise (x ∷ xs) all =
        let e : p.sequence ≡ s = ap (λ (y : Packet). y.sequence) (same_Some p q at) ∙ is in
        let lt : p.sequence < x.sequence = all.0 in
        (omega arith, raise xs all.1)
at_marked f s (p ∷ ps) (suc k) q up at is =
    let below : p.sequence < q.sequence = all_at (λ (x : Packet). p.sequence < x.sequence) ps k q up.0 at in
    let other : eqb p.sequence s ≡ false = ne_eqb p.sequence s (λ e. absurd (omega arith)) in
    λ i. one_marked f s p false other i ∷ at_marked f s ps k q up.1 at is i

-- the packet is found at a place
pub marked_there : (f : Packet → Packet) (s : ℕ) (ps : List Packet) (k : ℕ) (q : Packet) → IsStrictlyIncreasing (sequences_of ps) → find (has s) ps ≡ slice_get ps k → slice_get ps k ≡ Some q → map (marked f s) ps ≡ set ps k (f q)
marked_there f s ps k q rising found at = at_marked f s ps k q (Up-from_increasing (λ (x : Packet). x.sequence) ps rising) at (found_sequence ps s q (found ∙ at))

-- it isn't found
pub marked_nowhere : (f : Packet → Packet) (s : ℕ) (ps : List Packet) → find (has s) ps ≡ None → map (marked f s) ps ≡ ps
marked_nowhere f s [] e = refl
marked_nowhere f s (p ∷ ps) e = go (eqb p.sequence s) refl e (marked_nowhere f s ps)
  where
    go : (b : Bool) → eqb p.sequence s ≡ b → cond b (Some p) (find (has s) ps) ≡ None → (find (has s) ps ≡ None → map (marked f s) ps ≡ ps) → map (marked f s) (p ∷ ps) ≡ p ∷ ps
    go true at h rest = absurd (none-some p (sym h))
    go false at h rest = λ i. one_marked f s p false at i ∷ rest h i
