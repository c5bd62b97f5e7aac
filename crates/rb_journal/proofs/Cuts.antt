-- What is left of a journal that was cut.
use Rattle.std.proofs.Common.{◌≡◌, ℕ, ◌+◌, ◌≤◌, List, [], ◌∷◌, ◌++◌, length, take, drop, All, Option, Some, None, refl, sym, ap, subst, ◌∙◌, ◌≢◌, append_assoc, length-append, arith}
use Rattle.std.proofs.Math.Seq.{take-append_seam, drop-append_seam}
use Rattle.std.proofs.lemmas.List.{nil_from_length}
use Rattle.std.proofs.lemmas.List.Elements.{All-head, All-tail}
use Rattle.std.specs.List.{concat}
use Rattle.rb_journal.specs.Parts.{part_end, IsWhole}
use Rattle.rb_journal.specs.Laws.{CutsLoseNoPart}
use Rattle.rb_journal.proofs.Ends.{part_end-append, part_end-within}

-- whole parts in front are the first parts
head : (p more : List ℕ) → IsWhole p → part_end (p ++ more) ≡ Some (length p)
head p more whole = part_end-append p more (length p) whole

some-none : {n : ℕ} {o : Option ℕ} → o ≡ Some n → o ≡ None → ⊥
some-none a b = cc

same_heads : (p q a b : List ℕ) → IsWhole p → IsWhole q → p ++ a ≡ q ++ b → (p ≡ q) × (a ≡ b)
same_heads p q a b is_p is_q e =
    let at_p : part_end (p ++ a) ≡ Some (length p) = head p a is_p in
    let at_q : part_end (p ++ a) ≡ Some (length q) = ap part_end e ∙ head q b is_q in
    let n : length p ≡ length q = cc in
    let front : p ≡ q = sym (take-append_seam p a) ∙ ap (take (length p)) e ∙ ap (λ (k : ℕ). take k (q ++ b)) n ∙ take-append_seam q b in
    let back : a ≡ b = sym (drop-append_seam p a) ∙ ap (drop (length p)) e ∙ ap (λ (k : ℕ). drop k (q ++ b)) n ∙ drop-append_seam q b in
    (front, back)

-- bytes are split into whole parts, and a rest in which none ends, in one way
pub one_split : (ps qs : List (List ℕ)) (r s : List ℕ) → All IsWhole ps → All IsWhole qs → part_end r ≡ None → part_end s ≡ None
    → concat ps ++ r ≡ concat qs ++ s → (ps ≡ qs) × (r ≡ s)
one_split [] [] r s ip iq nr ns e = (refl, e)
one_split [] (q ∷ qs) r s ip iq nr ns e =
    absurd (some-none (ap part_end (e ∙ append_assoc q (concat qs) s) ∙ head q (concat qs ++ s) (All-head IsWhole q qs iq)) nr)
one_split (p ∷ ps) [] r s ip iq nr ns e =
    absurd (some-none (ap part_end (sym e ∙ append_assoc p (concat ps) r) ∙ head p (concat ps ++ r) (All-head IsWhole p ps ip)) ns)
one_split (p ∷ ps) (q ∷ qs) r s ip iq nr ns e =
    let (here, later) = same_heads p q (concat ps ++ r) (concat qs ++ s) (All-head IsWhole p ps ip) (All-head IsWhole q qs iq)
    (sym (append_assoc p (concat ps) r) ∙ e ∙ append_assoc q (concat qs) s) in
    let (parts, rests) = one_split ps qs r s (All-tail IsWhole p ps ip) (All-tail IsWhole q qs iq) nr ns later in
    (rw (here, parts) refl, rests)

-- the part that is next is one of all
pub next-among : (P : List ℕ → Type 0) (done ps : List (List ℕ)) (p more rest : List ℕ) → All IsWhole done → IsWhole p → All IsWhole ps → part_end rest ≡ None
    → concat done ++ (p ++ more) ≡ concat ps ++ rest → All P ps → P p
next-among P [] [] p more rest id ip iq nr e h = absurd (some-none (ap part_end (sym e) ∙ head p more ip) nr)
next-among P [] (q ∷ qs) p more rest id ip iq nr e h =
    let (same, later) = same_heads p q more (concat qs ++ rest) ip (All-head IsWhole q qs iq) (e ∙ append_assoc q (concat qs) rest) in
    subst P (sym same) (All-head P q qs h)
next-among P (d ∷ ds) [] p more rest id ip iq nr e h =
    absurd (some-none (ap part_end (sym e ∙ append_assoc d (concat ds) (p ++ more)) ∙ head d (concat ds ++ (p ++ more)) (All-head IsWhole d ds id)) nr)
next-among P (d ∷ ds) (q ∷ qs) p more rest id ip iq nr e h =
    let (same, later) = same_heads d q (concat ds ++ (p ++ more)) (concat qs ++ rest) (All-head IsWhole d ds id) (All-head IsWhole q qs iq)
    (sym (append_assoc d (concat ds) (p ++ more)) ∙ e ∙ append_assoc q (concat qs) rest) in
    next-among P ds qs p more rest (All-tail IsWhole d ds id) ip (All-tail IsWhole q qs iq) nr later (All-tail P q qs h)

-- nothing ends in a part that was cut
no_end : (part cut lost : List ℕ) → IsWhole part → part ≡ cut ++ lost → lost ≢ [] → (o : Option ℕ) → part_end cut ≡ o → o ≡ None
no_end part cut lost whole split some None e = refl
no_end part cut lost whole split some (Some n) e =
    let at_n : part_end part ≡ Some n = ap part_end split ∙ part_end-append cut lost n e in
    let same : length part ≡ n = cc (at_n, whole) in
    let less : n ≤ length cut = part_end-within cut n e in
    let more : length part ≡ length cut + length lost = ap length split ∙ length-append cut lost in
    absurd (some (nil_from_length lost (omega arith)))

pub cuts : CutsLoseNoPart
cuts before part cut lost all whole split some bytes is parts rest has =
    one_split parts before rest cut has.whole all has.cut (no_end part cut lost whole split some (part_end cut) refl) (sym has.split ∙ is)
