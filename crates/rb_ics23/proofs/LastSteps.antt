-- Neighbours, by the last steps of their paths.
use Rattle.std.proofs.Common.{◌≡◌, Bool, true, false, ◌&&◌, List, [], ◌∷◌, ◌++◌, length, map, reverse, if◌then◌else◌, refl, sym, ap, ◌∙◌, arith}
use Rattle.std.specs.List.{list_all}
use Rattle.std.proofs.lemmas.List.{reverse-append, map-append}
use Rattle.std.proofs.lemmas.List.Folds.{list_all-append}
use Rattle.rb_ics23.specs.declared.proof.ProofSpec.{ProofSpec}
use Rattle.rb_ics23.specs.declared.proof.InnerOp.{InnerOp as CodeInner}
use Rattle.rb_ics23.specs.Proof.{Inner, inner_view}
use Rattle.rb_ics23.specs.Neighbours.{is_left_child, is_right_child, is_left_most, is_right_most, same_step, are_apart, part_as_neighbours, are_neighbours}

and_swap : (a b : Bool) → (a && (b && true)) ≡ (b && a)
and_swap true true = refl
and_swap true false = refl
and_swap false true = refl
and_swap false false = refl

list_all-reverse : {X : Type 0} (p : X → Bool) (xs : List X) → list_all p (reverse xs) ≡ list_all p xs
list_all-reverse p [] = refl
list_all-reverse p (x ∷ xs) =
    ap (list_all p) (reverse-append (x ∷ []) xs) ∙ list_all-append p (reverse xs) (x ∷ [])
    ∙ and_swap (list_all p (reverse xs)) (p x) ∙ ap (λ b. p x && b) (list_all-reverse p xs)

are_apart-reverse : (spec : ProofSpec) (l r : Inner) (left right : List Inner)
    → are_apart spec l (reverse left) r (reverse right) ≡ are_apart spec l left r right
unfolding are_apart is_left_most is_right_most
are_apart-reverse spec l r left right =
    rw (list_all-reverse (is_right_child spec) left, list_all-reverse (is_left_child spec) right) refl

pub are_neighbours-none : (spec : ProofSpec) (right : List Inner) → are_neighbours spec [] right ≡ false
unfolding are_neighbours part_as_neighbours
are_neighbours-none spec right = refl

part-no_right : (spec : ProofSpec) (left : List Inner) → part_as_neighbours spec left [] ≡ false
unfolding part_as_neighbours
part-no_right spec [] = refl
part-no_right spec (l ∷ left) = refl

pub are_neighbours-no_right : (spec : ProofSpec) (left : List Inner) → are_neighbours spec left [] ≡ false
unfolding are_neighbours
are_neighbours-no_right spec left = part-no_right spec (reverse left)

are_neighbours-last : (spec : ProofSpec) (l r : Inner) (left right : List Inner)
    → are_neighbours spec (left ++ l ∷ []) (right ++ r ∷ []) ≡ (if same_step l r then are_neighbours spec left right else are_apart spec l left r right)
unfolding are_neighbours part_as_neighbours
are_neighbours-last spec l r left right =
    rw (reverse-append left (l ∷ []), reverse-append right (r ∷ []), ← are_apart-reverse spec l r left right) refl

-- the same of borrowed steps
abbrev views : List CodeInner → List Inner
views path = map inner_view path

pub none_left : (spec : ProofSpec) (left right : List CodeInner) → length left ≡ 0 → false ≡ are_neighbours spec (views left) (views right)
none_left spec [] right h = sym (are_neighbours-none spec (views right))
none_left spec (l ∷ left) right h = absurd (omega arith)

pub none_right : (spec : ProofSpec) (left right : List CodeInner) → length right ≡ 0 → false ≡ are_neighbours spec (views left) (views right)
none_right spec left [] h = sym (are_neighbours-no_right spec (views left))
none_right spec left (r ∷ right) h = absurd (omega arith)

by_last : (spec : ProofSpec) (l r : CodeInner) (left right lefts rights : List CodeInner)
    → lefts ≡ left ++ l ∷ [] → rights ≡ right ++ r ∷ []
    → are_neighbours spec (views lefts) (views rights)
    ≡ (if same_step (inner_view l) (inner_view r) then are_neighbours spec (views left) (views right) else are_apart spec (inner_view l) (views left) (inner_view r) (views right))
by_last spec l r left right lefts rights e f =
    rw (e, f, map-append inner_view left (l ∷ []), map-append inner_view right (r ∷ []))
    (are_neighbours-last spec (inner_view l) (inner_view r) (views left) (views right))

-- the last steps are the same
pub by_same : (spec : ProofSpec) (l r : CodeInner) (left right lefts rights : List CodeInner) (same result : Bool)
    → lefts ≡ left ++ l ∷ [] → rights ≡ right ++ r ∷ []
    → same ≡ true → same ≡ same_step (inner_view l) (inner_view r) → result ≡ are_neighbours spec (views left) (views right)
    → result ≡ are_neighbours spec (views lefts) (views rights)
by_same spec l r left right lefts rights same result e f one tests h =
    let last = by_last spec l r left right lefts rights e f in
    let test : same_step (inner_view l) (inner_view r) ≡ true = sym tests ∙ one in
    h ∙ sym (rw test at last)

-- the last steps part
pub by_parting : (spec : ProofSpec) (l r : CodeInner) (left right lefts rights : List CodeInner) (same result : Bool)
    → lefts ≡ left ++ l ∷ [] → rights ≡ right ++ r ∷ []
    → same ≡ false → same ≡ same_step (inner_view l) (inner_view r) → result ≡ are_apart spec (inner_view l) (views left) (inner_view r) (views right)
    → result ≡ are_neighbours spec (views lefts) (views rights)
by_parting spec l r left right lefts rights same result e f two tests h =
    let last = by_last spec l r left right lefts rights e f in
    let test : same_step (inner_view l) (inner_view r) ≡ false = sym tests ∙ two in
    h ∙ sym (rw test at last)
