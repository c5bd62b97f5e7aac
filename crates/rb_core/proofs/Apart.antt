-- Messages that rise by path, kind and sequence are apart.
use Rattle.std.proofs.Common.{◌≡◌, ℕ, zero, suc, ◌+◌, ◌-◌, ◌<◌, ◌==◌, Bool, true, false, IsTrue, List, length, get_or, AllPairs, sym, ap, ◌∙◌, subst, inl, inr, arith}
use Rattle.std.specs.Prelude.{◌⊎◌}
use Rattle.std.specs.List.{AllAdjacentBelow, IsAllAdjacentAnswer}
use Rattle.std.proofs.lemmas.Bool.{and_parts, or_cases, ltb-true, eqb-true, false≢true}
use Rattle.rb_plan_client.specs.Task.{Message}
use Rattle.rb_core.specs.Order.{comes_before, kind_place}
use Rattle.rb_core_model.specs.Fits.{AreApart}

-- a message comes before another
Before : Message → Message → Type 0
Before m n =
    (m.path < n.path)
    ⊎ ((m.path ≡ n.path)
    × ((kind_place m.packet.kind < kind_place n.packet.kind) ⊎ ((kind_place m.packet.kind ≡ kind_place n.packet.kind) × (m.packet.sequence < n.packet.sequence))))

before : (m n : Message) → comes_before m n ≡ true → Before m n
unfolding Before
before m n e = elim (or_cases _ _ e) [
  | inl path ↦ inl (ltb-true m.path n.path path)
  | inr rest ↦
      let parts = and_parts (m.path == n.path) _ rest in
      let path = eqb-true m.path n.path parts.0 in
      elim (or_cases _ _ parts.1) [
        | inl kind ↦ inr (path, inl (ltb-true _ _ kind))
        | inr last ↦ (let both = and_parts (kind_place m.packet.kind == kind_place n.packet.kind) _ last in inr (path, inr (eqb-true _ _ both.0, ltb-true _ _ both.1)))
      ]
]

before_trans : (m n o : Message) → Before m n → Before n o → Before m o
unfolding Before
before_trans m n o (inl a) (inl b) = inl (omega (arith, a, b))
before_trans m n o (inl a) (inr b) = (let e = b.0 in inl (omega (arith, a, e)))
before_trans m n o (inr a) (inl b) = (let e = a.0 in inl (omega (arith, e, b)))
before_trans m n o (inr (p, inl a)) (inr (q, inl b)) = inr (p ∙ q, inl (omega (arith, a, b)))
before_trans m n o (inr (p, inl a)) (inr (q, inr b)) = (let e = b.0 in inr (p ∙ q, inl (omega (arith, a, e))))
before_trans m n o (inr (p, inr a)) (inr (q, inl b)) = (let e = a.0 in inr (p ∙ q, inl (omega (arith, e, b))))
before_trans m n o (inr (p, inr a)) (inr (q, inr b)) = (let x = a.1 in let y = b.1 in inr (p ∙ q, inr (a.0 ∙ b.0, omega (arith, x, y))))

apart : (m n : Message) → Before m n → AreApart m n
unfolding Before
apart m n (inl path) same = (let e = same.0 in absurd (omega (arith, path, e)))
apart m n (inr (p, inl kind)) same = (let e = ap kind_place same.1 in absurd (omega (arith, kind, e)))
apart m n (inr (p, inr last)) same = (let less = last.1 in let e = same.2 in absurd (omega (arith, less, e)))

-- what rises from each to the next rises from each to all later ones
far : (ms : List Message) → AllAdjacentBelow Before ms (length ms) → (i gap : ℕ) (d : Message) → i + suc gap < length ms → Before (get_or ms i d) (get_or ms (i + suc gap) d)
far ms up i zero d within = up i d within
far ms up i (suc gap) d within =
    let next : (i + suc gap) + 1 ≡ i + suc (suc gap) = omega arith in
    subst (λ k. Before (get_or ms i d) (get_or ms k d)) next
    (before_trans (get_or ms i d) (get_or ms (i + suc gap) d) (get_or ms ((i + suc gap) + 1) d) (far ms up i gap d (omega (arith, within))) (up (i + suc gap) d (omega (arith, within))))

pub apart_from_neighbours : (ms : List Message) (r : Bool) → IsAllAdjacentAnswer (λ x y b. b ≡ comes_before x y) ms r → IsTrue r → AllPairs AreApart ms
apart_from_neighbours ms true up _ = λ i j d lt within.
    let gap = j - suc i in
    let at : i + suc gap ≡ j = omega (arith, lt) in
    apart (get_or ms i d) (get_or ms j d)
    (subst (λ k. Before (get_or ms i d) (get_or ms k d)) at (far ms (λ k e less. before _ _ (sym (up k e less))) i gap d (omega (arith, at, within))))
apart_from_neighbours ms false up h = absurd (false≢true h)
