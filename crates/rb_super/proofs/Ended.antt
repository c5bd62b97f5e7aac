-- What is gone on with.
use Rattle.std.proofs.Common.{◌≡◌, IfOk, sym, subst}
use Rattle.std.specs.Prelude.{Result, Ok, Err}
use Rattle.std.proofs.lemmas.Result.{IfOk-at_ok}
use Rattle.rb_core.specs.Core.{Core}

-- what holds of a value that was given, where the relayer goes on with it
pub ended : {X T E : Type 0} (r : Result X E) (given : Result T E) (k : Core) (core : X → Core) (value : X → T) (P : Core → T → Type 0)
    → IfOk r (λ x. core x ≡ k) → IfOk r (λ x. given ≡ Ok (value x)) → IfOk given (P k) → IfOk r (λ x. P (core x) (value x))
ended (Ok x) given k core value P same is p = subst (λ (c : Core). P c (value x)) (sym same) (IfOk-at_ok (P k) is p)
ended (Err e) given k core value P same is p = tt
