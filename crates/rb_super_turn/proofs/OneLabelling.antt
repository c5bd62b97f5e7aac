-- Two lists of labels by rising height that label each height alike are one.
use Rattle.std.proofs.Common.{◌≡◌, ℕ, zero, suc, ◌<◌, cond, List, [], ◌∷◌, Some, None, All, AllPairs, length, map, find, get_or, refl, sym, ap, ◌∙◌, inl, inr, arith, eqb}
use Rattle.std.specs.Option.{option_map}
use Rattle.std.proofs.lemmas.Bool.{cases_lt, eq-eqb, ne_eqb}
use Rattle.std.proofs.lemmas.List.{length-map}
use Rattle.std.proofs.Math.ListN.{get_or-map}
use Rattle.std.proofs.lemmas.List.Elements.{All-head, All-tail}
use Rattle.std.proofs.lemmas.List.Kept.{AllPairs-from_increasing}
use Rattle.rb_plan_types.specs.declared.cost.Cost.{Cost}
use Rattle.rb_plan_types.specs.declared.labelling.Label.{Label}
use Rattle.rb_plan_types.specs.Labelling.{IsLabelling, label_of}

abbrev height_of : Label → ℕ
height_of l = l.height

abbrev cost_of_label : Label → Cost
cost_of_label l = l.cost

-- each height is below those after it
abbrev Rise : List Label → Type 0
Rise [] = Unit {0}
Rise (l ∷ ls) = All (λ m. l.height < m.height) ls × Rise ls

rise : (ls : List Label) → AllPairs (λ x y. x < y) (map height_of ls) → Rise ls
rise [] up = tt
rise (l ∷ ls) up = (first, rise ls (λ i j d less lt. up (suc i) (suc j) d (omega arith) (omega arith)))
  where
    first : (k : ℕ) (d : Label) → k < length ls → l.height < (get_or ls k d).height
    first k d lt =
        let e = up 0 (suc k) d.height (omega arith) (omega (arith, length-map ls height_of)) in
        omega (arith, e, get_or-map height_of ls k d)

label_here : (l : Label) (ls : List Label) → label_of (l ∷ ls) l.height ≡ Some l.cost
label_here l ls = ap (λ b. option_map cost_of_label (cond b (Some l) (find (λ (m : Label). eqb m.height l.height) ls))) (eq-eqb l.height l.height refl)

label_there : (l : Label) (ls : List Label) (h : ℕ) → (l.height ≡ h → ⊥) → label_of (l ∷ ls) h ≡ label_of ls h
label_there l ls h other = ap (λ b. option_map cost_of_label (cond b (Some l) (find (λ (m : Label). eqb m.height h) ls))) (ne_eqb l.height h other)

absent : (ls : List Label) (h : ℕ) → All (λ m. h < m.height) ls → label_of ls h ≡ None
absent [] h above = refl
absent (l ∷ ls) h above =
    let lt = All-head (λ (m : Label). h < m.height) l ls above in
    label_there l ls h (λ e. omega (arith, lt, e)) ∙ absent ls h (All-tail (λ (m : Label). h < m.height) l ls above)

-- the one labels a height as the other does, wherever the one does
abbrev Follows : List Label → List Label → Type 0
Follows ls ms = (h : ℕ) (c : Cost) → label_of ls h ≡ Some c → label_of ms h ≡ Some c

-- the first height of the one is not below those of the other
not_below : (l : Label) (ls : List Label) (m : Label) (ms : List Label) → Rise (m ∷ ms) → Follows (l ∷ ls) (m ∷ ms) → l.height < m.height → ⊥
not_below l ls m ms up follows lt =
    let none : label_of (m ∷ ms) l.height ≡ None = absent (m ∷ ms) l.height (above lt up.0) in
    let found = follows l.height l.cost (label_here l ls) in
    cc
  where
    above : l.height < m.height → All (λ n. m.height < n.height) ms → (k : ℕ) (d : Label) → k < length (m ∷ ms) → l.height < (get_or (m ∷ ms) k d).height
    above here all zero d within = here
    above here all (suc k) d within = let e = all k d (omega arith) in omega (arith, here, e)

tail_follows : (l : Label) (ls : List Label) (m : Label) (ms : List Label) → Rise (l ∷ ls) → l.height ≡ m.height → Follows (l ∷ ls) (m ∷ ms) → Follows ls ms
tail_follows l ls m ms up same follows h c e =
    let other : l.height ≡ h → ⊥ = λ here. absent_there (absent ls l.height up.0) (ap (label_of ls) here ∙ e) in
    sym (label_there m ms h (λ here. other (same ∙ here))) ∙ follows h c (label_there l ls h other ∙ e)
  where
    absent_there : label_of ls l.height ≡ None → label_of ls l.height ≡ Some c → ⊥
    absent_there none some = cc

same_label : (l m : Label) → l.height ≡ m.height → l.cost ≡ m.cost → l ≡ m
same_label l m p q = λ i. record { height = p i; cost = q i }

one_list : (ls ms : List Label) → Rise ls → Rise ms → Follows ls ms → Follows ms ls → ls ≡ ms
one_list [] [] up up' f g = refl
one_list [] (m ∷ ms) up up' f g = let e = g m.height m.cost (label_here m ms) in cc
one_list (l ∷ ls) [] up up' f g = let e = f l.height l.cost (label_here l ls) in cc
one_list (l ∷ ls) (m ∷ ms) up up' f g =
    let low = not_below l ls m ms up' f in
    let high = not_below m ms l ls up g in
    let same : l.height ≡ m.height = elim (cases_lt l.height m.height) [
      | inl less ↦ absurd (low less)
      | inr more ↦ elim (cases_lt m.height l.height) [ inl less ↦ absurd (high less) | inr equal ↦ omega arith ]
    ] in
    let costs : Some l.cost ≡ Some m.cost = sym (f l.height l.cost (label_here l ls)) ∙ ap (label_of (m ∷ ms)) same ∙ label_here m ms in
    let cost : l.cost ≡ m.cost = cc in
    let rest = one_list ls ms up.1 up'.1 (tail_follows l ls m ms up same f) (tail_follows m ms l ls up' (sym same) g) in
    λ i. same_label l m same cost i ∷ rest i

pub one_labelling : (ls ms : List Label) → IsLabelling ls → IsLabelling ms → Follows ls ms → Follows ms ls → ls ≡ ms
one_labelling ls ms a b f g =
    one_list ls ms (rise ls (AllPairs-from_increasing (map height_of ls) a.rising)) (rise ms (AllPairs-from_increasing (map height_of ms) b.rising)) f g
