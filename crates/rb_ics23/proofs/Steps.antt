-- A path, step by step.
use Rattle.std.proofs.Common.{◌≡◌, ℕ, zero, suc, ◌<◌, ◌==◌, true, false, List, [], ◌∷◌, ◌++◌, length, map, Option, Some, None, option_map, refl, sym, ap, ◌∙◌, arith, append_assoc}
use Rattle.std.proofs.lemmas.Bool.{eqb-true}
use Rattle.std.proofs.lemmas.List.{map-append, append-nil}
use Rattle.rb_ics23.specs.Proof.{Inner, inner_view}
use Rattle.rb_ics23.specs.declared.proof.InnerOp.{InnerOp as CodeInner}
use Rattle.rb_ics23.specs.Ops.{◌>>=◌}
use Rattle.rb_ics23.specs.Read.{step_at, path_in}

-- the steps so far, and those that are left
abbrev pub Done : List Inner → ℕ → List ℕ → Option (List Inner) → Type 0
Done front most rest whole = option_map (λ steps. front ++ steps) (path_in most rest) ≡ whole

path_in-end : (most : ℕ) → path_in most [] ≡ Some []
unfolding path_in
path_in-end zero = refl
path_in-end (suc most) = refl

-- nothing is left
pub at_end : (front : List Inner) (most : ℕ) (rest : List ℕ) (whole : Option (List Inner)) → (length rest == 0) ≡ true
    → Done front most rest whole → Some front ≡ whole
at_end front most [] whole h done =
    ap Some (sym (append-nil front)) ∙ ap (option_map (λ steps. front ++ steps)) (sym (path_in-end most)) ∙ done
at_end front most (b ∷ rest) whole h done = let none : length (b ∷ rest) ≡ 0 = eqb-true _ _ h in absurd (omega arith)

path_in-more : (most : ℕ) (rest : List ℕ) → (length rest == 0) ≡ false
    → path_in (suc most) rest ≡ (step_at rest >>= λ step. path_in most step.1 >>= λ steps. Some (step.0 ∷ steps))
unfolding path_in
path_in-more most [] h = cc
path_in-more most (b ∷ rest) h = refl

path_in-none : (rest : List ℕ) → (length rest == 0) ≡ false → path_in zero rest ≡ None
unfolding path_in
path_in-none [] h = cc
path_in-none (b ∷ rest) h = refl

-- there are more than so many steps
pub too_many : (front : List Inner) (most : ℕ) (rest : List ℕ) (whole : Option (List Inner)) → most ≡ 0 → (length rest == 0) ≡ false
    → Done front most rest whole → None ≡ whole
too_many front zero rest whole e h done = ap (option_map (λ steps. front ++ steps)) (sym (path_in-none rest h)) ∙ done
too_many front (suc most) rest whole e h done = absurd (omega arith)

-- what is left begins with no step
pub no_step : (front : List Inner) (most : ℕ) (rest : List ℕ) (whole : Option (List Inner)) → 0 < most → (length rest == 0) ≡ false → None ≡ step_at rest
    → Done front most rest whole → None ≡ whole
no_step front zero rest whole e h none done = absurd (omega arith)
no_step front (suc most) rest whole e h none done =
    let more = path_in-more most rest h in
    let nothing : path_in (suc most) rest ≡ None = more ∙ rw (← none) refl in
    ap (option_map (λ steps. front ++ steps)) (sym nothing) ∙ done

joined : (front : List Inner) (step : Inner) (found : Option (List Inner))
    → option_map (λ steps. front ++ steps) (found >>= λ steps. Some (step ∷ steps)) ≡ option_map (λ steps. (front ++ step ∷ []) ++ steps) found
joined front step None = refl
joined front step (Some steps) = ap Some (sym (append_assoc front (step ∷ []) steps))

-- one step more
pub one_more : (front : List Inner) (most left : ℕ) (rest behind : List ℕ) (step : Inner) (whole : Option (List Inner))
    → most ≡ suc left → (length rest == 0) ≡ false → Some (step, behind) ≡ step_at rest
    → Done front most rest whole → Done (front ++ step ∷ []) left behind whole
one_more front most left rest behind step whole e h found done =
    let more : path_in most rest ≡ (path_in left behind >>= λ steps. Some (step ∷ steps)) =
    ap (λ n. path_in n rest) e ∙ path_in-more left rest h ∙ rw (← found) refl in
    sym (joined front step (path_in left behind)) ∙ ap (option_map (λ steps. front ++ steps)) (sym more) ∙ done

-- the step that was pushed
pub pushed : (path new : List CodeInner) (step : CodeInner) (left : ℕ) (behind : List ℕ) (whole : Option (List Inner))
    → new ≡ path ++ step ∷ [] → Done (map inner_view path ++ inner_view step ∷ []) left behind whole → Done (map inner_view new) left behind whole
pushed path new step left behind whole e done = rw (e, map-append inner_view path (step ∷ [])) done
