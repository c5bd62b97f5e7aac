use Rattle.std.proofs.Common.{◌≡◌, ◌≤◌, ◌-◌, Option, Some, None, IfSome, ℕ, All, length, rules}
use Rattle.std.specs.List.{slice_get}
use Rattle.std.specs.Option.{option_map}
use Rattle.rb_plan_types.specs.declared.labelling.Label.{Label}
use Rattle.rb_plan_types.proofs.Lookups.{last_is_highest}
use Rattle.rb_plan_types.proofs.labelling.top_reachable.Goals as goal

pub returns-clause-greatest : goal.returns-clause-greatest
returns-clause-greatest g c = highest c.map.result (search rules)
  where
    highest : (r : Option ℕ) → option_map (λ (l : Label). l.height) (slice_get c.args.labelling.now (length c.args.labelling.now - 1)) ≡ r → IfSome r (λ top. All (λ (l : Label). l.height ≤ top) c.args.labelling.now)
    highest None e = tt
    highest (Some top) e = last_is_highest c.args.labelling.now top c.labels.ensures.labelling e
