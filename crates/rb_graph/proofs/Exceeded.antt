-- Tests of fractions.
use Rattle.std.proofs.Common.{◌≡◌, ℕ, ◌↔◌, Bool, true, false, refl, sym}
use Rattle.std.specs.Prelude.{IsTrue}
use Rattle.std.proofs.lemmas.Bool.{lt-ltb, ltb-true, true≢false}
use Rattle.rb_base.specs.Fraction.{Ratio, Exceeds}
use Rattle.rb_step.specs.Answer.{exceeds}

-- a test of a fraction is the definition's
pub exceeds-test : (r : Bool) (p t : ℕ) (f : Ratio) → (IsTrue r ↔ Exceeds p t f) → r ≡ exceeds p t f
exceeds-test true p t f told = sym (lt-ltb _ _ (told.0 refl))
exceeds-test false p t f told = by (exceeds p t f) refl
  where
    by : (b : Bool) → exceeds p t f ≡ b → false ≡ b
    by true e = absurd (true≢false (sym (told.1 (ltb-true _ _ e))))
    by false e = refl
