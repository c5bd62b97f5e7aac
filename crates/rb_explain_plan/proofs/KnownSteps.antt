-- The step that a book knows, explained.
use Rattle.std.proofs.Common.{◌≡◌, ℕ, Option, Some, sym, ap, subst, ◌∙◌}
use Rattle.std.specs.Option.{IsSomeAnd, option_map_or}
use Rattle.rb_base.specs.Fee.{Fees}
use Rattle.rb_base.specs.Options.{ClientOptions}
use Rattle.rb_base.specs.Window.{Span}
use Rattle.rb_step.specs.Fee.{fee_at, fee_of}
use Rattle.rb_step.specs.KnownStep.{step_at}
use Rattle.rb_step.specs.StepRule.{Step}
use Rattle.rb_step.specs.View.{View}
use Rattle.rb_explain_plan.specs.Step.{IsToldBy, IsToldOf, IsExplained}
use Rattle.rb_explain_plan.specs.declared.step.StepExplanation.{StepExplanation}

pub step_explained : (v : View) (t h : ℕ) (s : Step) (o : ClientOptions) (w : Span) (f : Fees) (fee : ℕ) (x : StepExplanation) → o ≡ v.options → w ≡ v.window → f ≡ v.fees → fee ≡ fee_at v.options f v.book t h
    → Some s ≡ step_at v.book t h → IsToldBy o w fee s x → IsExplained v t h (Some x)
step_explained v t h s o w f fee x options window fees charged known told =
    let price : fee ≡ fee_of v.options v.fees s = charged ∙ ap (λ (g : Fees). fee_at v.options g v.book t h) fees ∙ ap (λ (k : Option Step). option_map_or (fee_of v.options v.fees) k 0) (sym known) in
    subst (λ (k : Option Step). IsSomeAnd k (λ (y : Step). IsToldOf v y x)) known
    (subst (λ (n : ℕ). IsToldBy v.options v.window n s x) price
    (subst (λ (p : ClientOptions). IsToldBy p v.window fee s x) options
    (subst (λ (q : Span). IsToldBy o q fee s x) window told)))
