use Rattle.std.proofs.Common.{◌≡◌, ◌↔◌, ℕ, Bool, true, false, IsTrue, List, refl, sym, arith, nat_lt, rules}
use Rattle.std.specs.List.{IsAllAdjacentAnswer}
use Rattle.std.specs.List.Sorted.{IsStrictlyIncreasing}
use Rattle.std.proofs.lemmas.Bool.{ltb-true, ltb-false, false≢true}
use Rattle.std.proofs.lemmas.List.Sorted.{answers_always}
use Rattle.rb_core_state.proofs.client.rise.Goals as goal

-- neighbours rise exactly where all do
neighbours : (xs : List ℕ) (r : Bool) → IsAllAdjacentAnswer (λ x y b. b ≡ nat_lt x y) xs r → IsTrue r ↔ IsStrictlyIncreasing xs
neighbours xs true h = (λ _ k lt. ltb-true _ _ (sym (h k 0 lt)), λ _. refl)
neighbours xs false h = (
  λ f. absurd (false≢true f),
  λ up. (let less = up h.0 h.1 in let more = ltb-false _ _ (sym (h.2 0)) in absurd (omega (arith, less, more))),
)

pub returns : goal.returns
returns c = neighbours c.args.heights.now c.is_sorted_by.result (c.is_sorted_by.ensures.cases (λ a b. nat_lt a b) (answers_always _ _ _ (λ f a r q h. search rules)))
