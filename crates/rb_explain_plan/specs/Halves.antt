-- (internal) A search by halves for the greatest power that isn't more than a fraction of a total.
use Rattle.std.specs.Prelude.{ℕ, ◌+◌, ◌<◌, ◌≤◌}
use Rattle.rb_base.specs.Fraction.{Ratio, Exceeds}

-- the lower end isn't more than the fraction; the upper one is, unless it is above the total
pub record IsHalved (total lower upper : ℕ) (r : Ratio) : Type 0 where
  pub within : Exceeds lower total r → ⊥
  pub beyond : upper ≤ total → Exceeds upper total r
  pub order : lower < upper
  pub range : upper ≤ total + 1
