-- A verifier answers success in a window exactly where the step is accepted at each of its moments.
use Rattle.std.proofs.Common.{◌≡◌, ◌↔◌, ◌≤◌, ℕ, true, List, Option, Some, None, subst, arith}
use Rattle.std.proofs.lemmas.Grind.{common_steps}
use Rattle.std.proofs.Math.Nat.{le_antisymm}
use Rattle.std.proofs.lemmas.Slice.Eq.{bytes_eq-Decides}
use Rattle.std.specs.Str.{bytes_eq}
use Rattle.rb_base.specs.Options.{ClientOptions}
use Rattle.rb_base.specs.Window.{Span}
use Rattle.rb_valset.specs.Validator.{Member}
use Rattle.rb_book.specs.Header.{Record, Header}
use Rattle.rb_step.specs.StepRule.{Step, step_of, Accepts, AcceptsWithin}
use Rattle.rb_step.specs.Answer.{answer_at, answer_within}
use Rattle.rb_step.specs.declared.verdict.Verdict.TheVariants.{Success}

equal_from_test : (a b : List ℕ) → bytes_eq a b ≡ true → a ≡ b
equal_from_test a b e = (bytes_eq-Decides a b).0 e

test_from_equal : (a b : List ℕ) → a ≡ b → bytes_eq a b ≡ true
test_from_equal a b e = (bytes_eq-Decides a b).1 e

some_next : (o : ClientOptions) (w : Span) (h : ℕ) (t : Record) (n : List Member) (hd : Header) (own : List Member) → w.from ≤ w.until → (answer_within o w (step_of h t (Some n) hd own) ≡ Success) ↔ AcceptsWithin o w (step_of h t (Some n) hd own)
some_next o w h t n hd own ordered = grind (arith, common_steps, equal_from_test hd.set_hash t.next, test_from_equal hd.set_hash t.next)

no_next : (o : ClientOptions) (w : Span) (h : ℕ) (t : Record) (hd : Header) (own : List Member) → w.from ≤ w.until → (answer_within o w (step_of h t None hd own) ≡ Success) ↔ AcceptsWithin o w (step_of h t None hd own)
no_next o w h t hd own ordered = grind (arith, common_steps)

pub success_within : (o : ClientOptions) (w : Span) (s : Step) → w.from ≤ w.until → (answer_within o w s ≡ Success) ↔ AcceptsWithin o w s
success_within o w s ordered = by_next s.next
  where
    by_next : (next : Option (List Member)) → (answer_within o w (record s { next = next }) ≡ Success) ↔ AcceptsWithin o w (record s { next = next })
    by_next None = no_next o w s.trusted_height s.trusted s.header s.own ordered
    by_next (Some n) = some_next o w s.trusted_height s.trusted n s.header s.own ordered

-- and at a moment, where it is accepted then
pub success_at : (o : ClientOptions) (m : ℕ) (s : Step) → (answer_at o m s ≡ Success) ↔ Accepts o m s
success_at o m s =
    let law = success_within o (record { from = m; until = m }) s (omega arith) in
    (λ e. law.0 e m (omega arith, omega arith), λ a. law.1 (λ n within. subst (λ (k : ℕ). Accepts o k s) (le_antisymm within.0 within.1) a))
