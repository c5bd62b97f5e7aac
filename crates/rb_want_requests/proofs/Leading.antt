-- Farthest steps, and one more.
use Rattle.std.proofs.Common.{ℕ, ◌<◌, List, [], ◌∷◌, ◌++◌, refl, subst, sym}
use Rattle.rb_want_requests.specs.declared.searching.Aim.{Aim}
use Rattle.rb_want_requests.specs.Search.{Judgements, IsFarthestStep, IsReached, Lead}

leading : (judges : Judgements) (aim : Aim) (from : ℕ) (hops : List ℕ) (t h : ℕ) → Lead judges aim from hops t → t < aim.least → IsFarthestStep judges aim t h
    → Lead judges aim from (hops ++ h ∷ []) h
leading judges aim from [] t h is low step = (subst (λ x. x < aim.least) (sym is) low, subst (λ x. IsFarthestStep judges aim x h) (sym is) step, refl)
leading judges aim from (x ∷ xs) t h is low step = (is.0, is.1, leading judges aim x xs t h is.2 low step)

-- the first height is reached by no steps
pub start : (judges : Judgements) (aim : Aim) (first : ℕ) → IsReached judges aim first first
start judges aim first = ([], refl)

-- what a farthest step leads to from a height that is reached, and doesn't serve, is reached
pub further : (judges : Judgements) (aim : Aim) (first t h : ℕ) → IsReached judges aim first t → t < aim.least → IsFarthestStep judges aim t h → IsReached judges aim first h
further judges aim first t h is low step = (is.0 ++ h ∷ [], leading judges aim first is.0 t h is.1 low step)
