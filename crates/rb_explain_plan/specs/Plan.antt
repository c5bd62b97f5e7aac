-- Why a plan is as it is: its steps, and the lists beside it.
use Rattle.std.specs.Prelude.{◌≡◌, ℕ, ◌-◌, ◌≤◌, ◌^◌, ◌+◌, Bool, true, List, [], ◌∷◌, length, slice_get, Option, Some, None, is_some, MatchOption, IfSome, IsSomeAnd}
use Rattle.std.specs.List.{AllZip}
use Rattle.std.specs.Option.{option_map}
use Rattle.rb_step.specs.LightClient.{Update, total_fee}
use Rattle.rb_step.specs.View.{View, client_of}
use Rattle.rb_script_types.specs.declared.goal.Goal.{Goal}
use Rattle.rb_plan_types.specs.ProofHeight.{IsProofHeight}
use Rattle.rb_explain_plan.specs.Bisection.{IsBisection}
use Rattle.rb_explain_plan.specs.Fewest.{IsFewest, IsCheapestOfFewest}
use Rattle.rb_explain_plan.specs.Steps.{IsExplainedUpdate, IsDirect}
use Rattle.rb_explain_plan.specs.declared.plan.PlanExplanation.{PlanExplanation}
use Rattle.rb_explain_plan.specs.declared.prices.PricedList.{PricedList}

-- the height of the last update
abbrev pub last_height : List Update → Option ℕ
last_height us = option_map (λ (u : Update). u.height) (slice_get us (length us - 1))

-- a list has its updates' fees in all
abbrev pub IsPriced : {A : Type 0} → View → PricedList A → Type 0
IsPriced v l = l.fee ≡ total_fee (client_of v) l.updates.items

-- the fewest updates that meet a goal; the cheapest of the fewest, where the fee table's base, their fee and 1 are at most 10^9 together
pub record IsFewestPriced {A : Type 0} (v : View) (goal : Goal) (l : PricedList A) : Type 0 where
  pub fewest : IsFewest (client_of v) goal l.updates.items
  pub cheapest : v.fees.base + total_fee (client_of v) l.updates.items + 1 ≤ 10 ^ 9 → IsCheapestOfFewest (client_of v) goal l.updates.items
  pub priced : IsPriced v l

-- the updates of a bisection, which the client accepts, where it has stored the first height
pub record IsBisectionPriced {A : Type 0} (v : View) (from to : ℕ) (l : PricedList A) : Type 0 where
  pub bisection : IsBisection (client_of v) v.book from to l.updates.items
  pub priced : IsPriced v l

abbrev pub IsBisected : {A : Type 0} → View → Option ℕ → Option ℕ → Option (PricedList A) → Type 0
IsBisected v None to o = o ≡ None
IsBisected v (Some from) None o = o ≡ None
IsBisected v (Some from) (Some to) o =
    MatchOption o ((us : List Update) → IsBisection (client_of v) v.book from to us → ⊥) (IsBisectionPriced v from to)

-- the step of each update is explained; the highest height that is stored and live before them; the one step from there
-- to the last update's height; the fewest updates, which are there where they had to be searched; and those of a bisection
pub record IsPlanExplained {A : Type 0} (v : View) (goal : Goal) (us : List Update) (is_searched : Bool) (x : PlanExplanation A) : Type 0 where
  pub steps : AllZip (IsExplainedUpdate v) us x.steps.items
  pub newest : IsProofHeight (client_of v) [] x.newest
  pub direct : IsDirect v x.newest (last_height us) x.direct
  pub fewest : IfSome x.fewest (IsFewestPriced v goal)
  pub searched : is_searched ≡ true → is_some x.fewest ≡ true
  pub bisection : IsBisected v x.newest (last_height us) x.bisection

-- the plan is one step: the one from the highest height that was stored and live
abbrev pub IsOnlyStep : {A : Type 0} → PlanExplanation A → Type 0
IsOnlyStep x = IsSomeAnd x.direct (λ direct. x.steps.items ≡ Some direct ∷ [])
