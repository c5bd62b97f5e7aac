use Rattle.std.proofs.Common.{rules}
use Rattle.std.proofs.lemmas.List.Sorted.{answers_always}
use Rattle.rb_plan_types.specs.declared.labelling.Label.{Label}
use Rattle.rb_plan_types.proofs.Search.{label_at_found, label_at_missing}
use Rattle.rb_plan_types.proofs.labelling.label_at.Goals as goal

pub returns-in-Ok-clause-label : goal.returns-in-Ok-clause-label
returns-in-Ok-clause-label c =
    label_at_found c.args.labels.now c.args.height c.requires c.in-Ok.place c.index-labels-place.result c.in-Ok.ensures.bound
    (c.in-Ok.ensures.position (λ (l : Label). l.height) (answers_always _ _ _ (λ f a r g k. search rules)))

pub returns-in-Err-clause-label : goal.returns-in-Err-clause-label
returns-in-Err-clause-label c =
    label_at_missing c.args.labels.now c.args.height c.requires c.in-Err.field-0
    (c.in-Err.ensures.position (λ (l : Label). l.height) (answers_always _ _ _ (λ f a r g k. search rules)))
