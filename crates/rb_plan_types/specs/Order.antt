-- the order of lists of updates: by total fee, then by number of updates, then by the pairs of height and
-- trusted height from the last update back, the lower or the higher heights first (own choice)
use Rattle.std.specs.Prelude.{◌≡◌, ℕ, ◌+◌, ◌<◌, ◌≤◌, ◌⊎◌, List, [], ◌∷◌, length, reverse}
use Rattle.rb_base.specs.declared.ties.Ties.{Ties}
use Rattle.rb_base.specs.declared.ties.Ties.TheVariants.{Lower, Higher}
use Rattle.rb_step.specs.LightClient.{Update, Client, total_fee}
use Rattle.rb_plan_types.specs.declared.cost.Cost.{Cost}

abbrev pub no_cost : Cost
no_cost = record { fee = 0; count = 0 }

-- the cost with one more update, of this fee
abbrev pub after_update : Cost → ℕ → Cost
after_update c fee = record { fee = c.fee + fee; count = c.count + 1 }

abbrev pub cost_of : Client → List Update → Cost
cost_of client us = record { fee = total_fee client us; count = length us }

-- costs are compared fee first
abbrev pub IsCheaper : Cost → Cost → Type 0
IsCheaper a b = (a.fee < b.fee) ⊎ ((a.fee ≡ b.fee) × (a.count < b.count))

abbrev pub CostsAtMost : Cost → Cost → Type 0
CostsAtMost a b = (a.fee < b.fee) ⊎ ((a.fee ≡ b.fee) × (a.count ≤ b.count))

-- of two heights, the one that comes first
abbrev pub ComesFirst : Ties → ℕ → ℕ → Type 0
ComesFirst Lower a b = a < b
ComesFirst Higher a b = b < a

-- by height, then by trusted height
abbrev pub IsEarlier : Ties → Update → Update → Type 0
IsEarlier ties u v = ComesFirst ties u.height v.height ⊎ ((u.height ≡ v.height) × ComesFirst ties u.trusted v.trusted)

-- as lists: the first place at which they differ decides, and a beginning comes first
abbrev pub IsEarlierList : Ties → List Update → List Update → Type 0
IsEarlierList ties us [] = ⊥
IsEarlierList ties [] (v ∷ vs) = Unit {0}
IsEarlierList ties (u ∷ us) (v ∷ vs) = IsEarlier ties u v ⊎ ((u ≡ v) × IsEarlierList ties us vs)

abbrev pub PrecedesList : Client → List Update → List Update → Type 0
PrecedesList client us vs =
    IsCheaper (cost_of client us) (cost_of client vs)
    ⊎ ((cost_of client us ≡ cost_of client vs) × IsEarlierList client.ties (reverse us) (reverse vs))
