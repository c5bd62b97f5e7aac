-- The three numbers of a fee table.
use Rattle.std.specs.Prelude.{◌≡◌}
use Rattle.rb_base.specs.Fee.{Fees}
use Rattle.rb_explain_plan.specs.declared.charges.Charges.{Charges}

pub record IsChargesOf (f : Fees) (x : Charges) : Type 0 where
  pub base : x.base ≡ f.base
  pub signature : x.signature ≡ f.signature
  pub validator : x.validator ≡ f.validator
