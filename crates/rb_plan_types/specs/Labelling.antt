-- labels: what a list of updates that leaves a height stored and live costs at least (own choice)
use Rattle.std.specs.Prelude.{◌≡◌, ℕ, ◌<◌, ◌^◌, ◌⊎◌, List, Option, Some, All, IsSomeAnd, ◌==◌, find, map}
use Rattle.std.specs.List.Sorted.{IsStrictlyIncreasing}
use Rattle.std.specs.Option.{option_map}
use Rattle.rb_base.specs.declared.ties.Ties.{Ties}
use Rattle.rb_step.specs.LightClient.{Update, Client, IsSource, IsAcceptable, Leaves}
use Rattle.rb_plan_types.specs.declared.cost.Cost.{Cost}
use Rattle.rb_script_types.specs.declared.goal.Goal.{Goal}
use Rattle.rb_plan_types.specs.declared.labelling.Label.{Label}
use Rattle.rb_plan_types.specs.Goal.{Wants}
use Rattle.rb_plan_types.specs.Order.{IsCheaper, CostsAtMost, ComesFirst, no_cost, after_update, cost_of}

-- heights rise, and numbers have 63 bits
pub record IsLabelling (labels : List Label) : Type 0 where
  pub rising : IsStrictlyIncreasing (map (λ (l : Label). l.height) labels)
  pub small : All (λ l. (l.cost.fee < 2 ^ 63) × (l.cost.count < 2 ^ 63)) labels

abbrev pub Labels : Type 0
Labels = ℕ → Option Cost

abbrev pub label_of : List Label → Labels
label_of labels h = option_map (λ (l : Label). l.cost) (find (λ l. l.height == h) labels)

-- the height is labelled with at most this cost
abbrev pub IsLabelledAtMost : Labels → ℕ → Cost → Type 0
IsLabelledAtMost label h cost = IsSomeAnd (label h) (λ c. CostsAtMost c cost)

-- sources cost nothing, and no accepted step makes a height cheaper than its label
pub record IsSound (client : Client) (label : Labels) : Type 0 where
  pub sources : (h : ℕ) → IsSource client h → label h ≡ Some no_cost
  pub steps : (t h : ℕ) (c : Cost) → label t ≡ Some c → client.Accepts t h
      → IsLabelledAtMost label h (after_update c (client.fee t h))

-- the labelled heights are those that some acceptable list leaves stored and live, each with the least cost
-- of such a list
pub record IsExact (client : Client) (label : Labels) : Type 0 where
  pub reached : (h : ℕ) (c : Cost) → label h ≡ Some c
      → (us : List Update) × IsAcceptable client us × Leaves client us h × (cost_of client us ≡ c)
  pub least : (h : ℕ) (us : List Update) → IsAcceptable client us → Leaves client us h
      → IsLabelledAtMost label h (cost_of client us)

-- an accepted step leads from a label of the trusted height to this cost of the height
abbrev pub LeadsTo : Client → Labels → ℕ → ℕ → Cost → Type 0
LeadsTo client label t h cost =
    (c : Cost) × (label t ≡ Some c) × client.Accepts t h × (cost ≡ after_update c (client.fee t h))

-- each label is that of a source, or comes from the label of a trusted height by an accepted step
abbrev pub IsAttained : Client → Labels → Type 0
IsAttained client label =
    (h : ℕ) (c : Cost) → label h ≡ Some c
    → (IsSource client h × (c ≡ no_cost)) ⊎ ((t : ℕ) × LeadsTo client label t h c)

-- no trusted height that comes first gives the update's height the same label
abbrev pub IsFirstTrusted : Client → Labels → Update → Type 0
IsFirstTrusted client label u =
    (t : ℕ) (c : Cost) → ComesFirst client.ties t u.trusted → label u.height ≡ Some c → LeadsTo client label t u.height c → ⊥

-- no height that the goal wants has a label and a height before these
abbrev pub IsFirstWanted : Ties → Labels → Goal → Cost → ℕ → Type 0
IsFirstWanted ties label goal total last =
    (h : ℕ) (c : Cost) → label h ≡ Some c → Wants goal h → IsCheaper c total ⊎ ((c ≡ total) × ComesFirst ties h last) → ⊥
