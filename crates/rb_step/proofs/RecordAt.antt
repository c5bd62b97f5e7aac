-- Steps that a view's book knows.
use Rattle.std.proofs.Common.{◌≡◌, ◌↔◌, ℕ, Bool, IsTrue, Option, Some, subst, sym}
use Rattle.std.specs.Option.{IsSomeAnd}
use Rattle.rb_base.specs.Options.{ClientOptions}
use Rattle.rb_base.specs.Window.{Span}
use Rattle.rb_step.specs.KnownStep.{step_at}
use Rattle.rb_step.specs.StepRule.{Step, AcceptsWithin}
use Rattle.rb_step.specs.View.{View, client_of}

-- a test of a known step tells whether the client accepts it
pub accepts_known : (v : View) (t h : ℕ) (s : Step) (o : ClientOptions) (w : Span) (r : Bool) → step_at v.book t h ≡ Some s → o ≡ v.options → w ≡ v.window → (IsTrue r ↔ AcceptsWithin o w s) → IsTrue r ↔ (client_of v).Accepts t h
unfolding client_of
accepts_known v t h s o w r known same_options same_window tells = (
  λ yes. subst (λ (x : Option Step). IsSomeAnd x (AcceptsWithin v.options v.window)) (sym known) (there (tells.0 yes)),
  λ a. tells.1 (back (subst (λ (x : Option Step). IsSomeAnd x (AcceptsWithin v.options v.window)) known a)),
)
  where
    there : AcceptsWithin o w s → AcceptsWithin v.options v.window s
    there a = subst (λ (x : Span). AcceptsWithin v.options x s) same_window (subst (λ (x : ClientOptions). AcceptsWithin x w s) same_options a)

    back : AcceptsWithin v.options v.window s → AcceptsWithin o w s
    back a = subst (λ (x : Span). AcceptsWithin o x s) (sym same_window) (subst (λ (x : ClientOptions). AcceptsWithin x v.window s) (sym same_options) a)
