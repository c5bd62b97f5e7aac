-- What a power has to be more than (CometBFT light client: trust level, two thirds).
use Rattle.std.specs.Prelude.{◌≡◌, ◌↔◌, ℕ, ◌<◌, ◌≤◌}
use Rattle.rb_base.specs.Fraction.{Ratio, Exceeds}
use Rattle.rb_explain_plan.specs.declared.power.Power.{Power}

-- the greatest power, up to the total, that isn't more than the fraction of it: a power up to the total is more than the fraction exactly
-- where it is more than this
pub record IsThreshold (total : ℕ) (r : Ratio) (threshold : ℕ) : Type 0 where
  pub within : threshold ≤ total
  pub parts : (power : ℕ) → power ≤ total → Exceeds power total r ↔ (threshold < power)

-- the power that signed, the total, and the threshold
pub record IsPower (voted whole : ℕ) (r : Ratio) (p : Power) : Type 0 where
  pub signed : p.signed ≡ voted
  pub total : p.total ≡ whole
  pub threshold : IsThreshold whole r p.threshold
