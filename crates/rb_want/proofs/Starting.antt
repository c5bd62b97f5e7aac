-- The greatest stored height that is no higher than another.
use Rattle.std.proofs.Common.{◌≡◌, ℕ, ◌+◌, ◌<◌, ◌≤◌, List, [], ◌∷◌, ◌++◌, Option, Some, None, Bool, true, false, ◌||◌, All, length, length-append, get_or, take, map, refl, ap, sym, subst, ◌∙◌, arith}
use Rattle.std.specs.Prelude.{◌==◌, Any, nat_le, if◌then◌else◌}
use Rattle.std.specs.List.{list_any}
use Rattle.std.proofs.lemmas.Bool.Decides.{nat_tests}
use Rattle.std.specs.Borrow.{Bor}
use Rattle.std.specs.List.Sorted.{IsNonDecreasingBy}
use Rattle.std.proofs.lemmas.List.{get_or_append_left, get_or-map, get_or-take, length-map, length-take-le, map_more}
use Rattle.std.proofs.lemmas.List.Elements.{All-nil, All-push}
use Rattle.std.proofs.lemmas.List.Folds.{list_any_at, list_any_more}
use Rattle.std.proofs.lemmas.List.Quantifiers.{Any-push}
use Rattle.rb_import_answers.specs.declared.client.ConsensusState.{ConsensusState}
use Rattle.rb_want.specs.Needs.{IsStart, start_with}

-- the record of a reference
abbrev state : Bor ConsensusState → ConsensusState
state r = r.now

any_before : {X : Type 0} (P : X → Type 0) (xs ys : List X) → Any P xs → Any P (xs ++ ys)
any_before P xs ys (k, x, small, is, holds) =
    (k, x, omega (arith, small, length-append xs ys), get_or_append_left xs ys x k small ∙ is, holds)

-- earlier records are no higher
below : (xs : List (Bor ConsensusState)) (i : ℕ) (x : Bor ConsensusState) → IsNonDecreasingBy (λ r. r.now.height) xs → i < length xs → x ≡ get_or xs i x
    → All (λ s. s.height ≤ x.now.height) (map state (take i xs))
below xs i x rises lt is k d small =
    let short : length (take i xs) ≡ i = length-take-le i xs (omega (arith, lt)) in
    let before : k < i = omega (arith, small, short, length-map (take i xs) state) in
    let within : k < length (take i xs) = omega (arith, before, short) in
    let at : get_or (map state (take i xs)) k d ≡ state (get_or xs k x) =
    get_or-map state (take i xs) k x d within ∙ ap state (get_or-take i xs k x before) in
    let order : (get_or xs k x).now.height ≤ (get_or xs i x).now.height = rises k i x (omega (arith, before)) lt in
    let here : (get_or xs i x).now.height ≡ x.now.height = ap (λ (r : Bor ConsensusState). r.now.height) (sym is) in
    let there : (get_or (map state (take i xs)) k d).height ≡ (get_or xs k x).now.height = ap (λ (s : ConsensusState). s.height) at in
    omega (arith, order, here, there)

one_more : (xs : List (Bor ConsensusState)) (i : ℕ) (x : Bor ConsensusState) → i < length xs → x ≡ get_or xs i x
    → map state (take (i + 1) xs) ≡ map state (take i xs) ++ x.now ∷ []
one_more xs i x lt is = map_more state xs i x lt ∙ ap (λ z. map state (take i xs) ++ state z ∷ []) (sym is)

-- a record that isn't too high is the greatest so far
pub start_at : (xs : List (Bor ConsensusState)) (most : ℕ) (i : ℕ) (x : Bor ConsensusState)
    → IsNonDecreasingBy (λ r. r.now.height) xs → i < length xs → x ≡ get_or xs i x → x.now.height ≤ most
    → IsStart (map (λ r. r.now) (take (i + 1) xs)) most (Some x.now.height)
start_at xs most i x rises lt is low =
    subst (λ l. IsStart l most (Some x.now.height)) (sym (one_more xs i x lt is)) (
      Any-push (λ s. s.height ≡ x.now.height) (map state (take i xs)) x.now refl,
      low,
      All-push (λ s. s.height ≤ most → s.height ≤ x.now.height) (map state (take i xs)) x.now (λ k d small _. below xs i x rises lt is k d small) (λ _. omega arith),
    )

-- a record that is too high changes nothing
pub start_over : (xs : List (Bor ConsensusState)) (most : ℕ) (first : Option ℕ) (i : ℕ) (x : Bor ConsensusState)
    → i < length xs → x ≡ get_or xs i x → most < x.now.height
    → IsStart (map (λ r. r.now) (take i xs)) most first → IsStart (map (λ r. r.now) (take (i + 1) xs)) most first
start_over xs most first i x lt is high before =
    subst (λ l. IsStart l most first) (sym (one_more xs i x lt is)) (go first before)
  where
    go : (o : Option ℕ) → IsStart (map state (take i xs)) most o → IsStart (map state (take i xs) ++ x.now ∷ []) most o
    go None all = All-push (λ s. most < s.height) (map state (take i xs)) x.now all high
    go (Some f) (any, low, all) = (
      any_before (λ s. s.height ≡ f) (map state (take i xs)) (x.now ∷ []) any,
      low,
      All-push (λ s. s.height ≤ most → s.height ≤ f) (map state (take i xs)) x.now all (λ le. absurd (omega (arith, le, high))),
    )

pub start_none : (most : ℕ) → IsStart [] most None
start_none most = All-nil (λ s. most < s.height)

-- a record more
pub start_step : (xs : List (Bor ConsensusState)) (most : ℕ) (first : Option ℕ) (i : ℕ) (x : Bor ConsensusState)
    → IsNonDecreasingBy (λ r. r.now.height) xs → i < length xs → x ≡ get_or xs i x
    → IsStart (map (λ r. r.now) (take i xs)) most first → IsStart (map (λ r. r.now) (take (i + 1) xs)) most (start_with most first x.now.height)
start_step xs most first i x rises lt is before = go (nat_le x.now.height most) refl
  where
    go : (b : Bool) → nat_le x.now.height most ≡ b → IsStart (map (λ r. r.now) (take (i + 1) xs)) most (start_with most first x.now.height)
    go true e =
        let low : x.now.height ≤ most = grind (arith, nat_tests, e) in
        subst (λ b. IsStart (map (λ r. r.now) (take (i + 1) xs)) most (if b then Some x.now.height else first)) (sym e) (start_at xs most i x rises lt is low)
    go false e =
        let high : most < x.now.height = grind (arith, nat_tests, e) in
        subst (λ b. IsStart (map (λ r. r.now) (take (i + 1) xs)) most (if b then Some x.now.height else first)) (sym e) (start_over xs most first i x lt is high before)

-- a test of what references show
pub any_map : {A B : Type 0} (p : B → Bool) (v : A → B) (xs : List A) → list_any (λ x. p (v x)) xs ≡ list_any p (map v xs)
any_map p v [] = refl
any_map p v (x ∷ xs) = ap (λ b. p (v x) || b) (any_map p v xs)

-- a record of the height is stored
pub stored_at : (xs : List (Bor ConsensusState)) (height : ℕ) (i : ℕ) (x : Bor ConsensusState) → i < length xs → x ≡ get_or xs i x
    → (x.now.height == height) ≡ true → list_any (λ s. s.height == height) (map (λ r. r.now) xs) ≡ true
stored_at xs height i x lt is same =
    sym (any_map (λ (s : ConsensusState). s.height == height) state xs)
    ∙ list_any_at (λ (r : Bor ConsensusState). r.now.height == height) xs i x lt (ap (λ (r : Bor ConsensusState). r.now.height == height) (sym is) ∙ same)

-- and none of another one
pub stored_over : (xs : List (Bor ConsensusState)) (height : ℕ) (i : ℕ) (x : Bor ConsensusState) → i < length xs → x ≡ get_or xs i x
    → (x.now.height == height) ≡ false → list_any (λ s. s.height == height) (map (λ r. r.now) (take i xs)) ≡ false
    → list_any (λ s. s.height == height) (map (λ r. r.now) (take (i + 1) xs)) ≡ false
stored_over xs height i x lt is other before =
    let test = λ (s : ConsensusState). s.height == height in
    sym (any_map test state (take (i + 1) xs)) ∙ list_any_more (λ (r : Bor ConsensusState). r.now.height == height) xs i x lt
    ∙ ap (λ b. b || ((get_or xs i x).now.height == height)) (any_map test state (take i xs) ∙ before)
    ∙ ap (λ (r : Bor ConsensusState). r.now.height == height) (sym is) ∙ other

pub ruleset storing = (stored_at, stored_over)
