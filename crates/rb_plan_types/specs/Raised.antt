-- A label from the labels of the heights below.
use Rattle.std.specs.Prelude.{◌≡◌, ℕ, ◌⊎◌, Option, Some, IsSomeAnd, IfSome}
use Rattle.rb_step.specs.LightClient.{Client, IsSource}
use Rattle.rb_plan_types.specs.declared.cost.Cost.{Cost}
use Rattle.rb_plan_types.specs.Order.{CostsAtMost, no_cost}
use Rattle.rb_plan_types.specs.Labelling.{Labels, LeadsTo}

-- one of the two, which costs no more than either
abbrev pub IsCheaperOf : Option Cost → Cost → Cost → Type 0
IsCheaperOf best cost r = CostsAtMost r cost × IfSome best (λ b. CostsAtMost r b) × ((r ≡ cost) ⊎ (best ≡ Some r))

-- the least cost at which an accepted step leads to the height from a labelled one, and none where none does
pub record IsCheapestStep (client : Client) (label : Labels) (h : ℕ) (best : Option Cost) : Type 0 where
  pub least : (t : ℕ) (c : Cost) → LeadsTo client label t h c → IsSomeAnd best (λ b. CostsAtMost b c)
  pub attained : (b : Cost) → best ≡ Some b → (t : ℕ) × LeadsTo client label t h b

-- the cost of a height by the labels of the heights below it: nothing for a source, else that of the cheapest step
pub record IsRaised (client : Client) (label : Labels) (h : ℕ) (cost : Option Cost) : Type 0 where
  pub source : IsSource client h → cost ≡ Some no_cost
  pub least : (t : ℕ) (c : Cost) → LeadsTo client label t h c → IsSomeAnd cost (λ b. CostsAtMost b c)
  pub attained : (b : Cost) → cost ≡ Some b → (IsSource client h × (b ≡ no_cost)) ⊎ ((t : ℕ) × LeadsTo client label t h b)
