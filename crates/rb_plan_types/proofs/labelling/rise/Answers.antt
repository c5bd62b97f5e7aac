use Rattle.std.proofs.Common.{nat_lt, rules}
use Rattle.std.proofs.lemmas.List.Sorted.{answers_always}
use Rattle.rb_plan_types.specs.declared.labelling.Label.{Label}
use Rattle.rb_plan_types.proofs.Lookups.{increasing_from_neighbours}
use Rattle.rb_plan_types.proofs.labelling.rise.Goals as goal

pub returns : goal.returns
returns c =
    increasing_from_neighbours (λ (l : Label). l.height) c.args.labels.now c.is_sorted_by.result
    (c.is_sorted_by.ensures.cases (λ a b. nat_lt a.height b.height) (answers_always _ _ _ (λ f a r q h. search rules)))
