-- what a planner's answer says
use Rattle.std.specs.Prelude.{List, Option, Some, None}
use Rattle.rb_step.specs.LightClient.{Update, Client}
use Rattle.rb_plan_types.specs.declared.answer.Answer.{Answer}
use Rattle.rb_plan_types.specs.declared.answer.Answer.TheVariants.{Plan, Unreachable}
use Rattle.rb_script_types.specs.declared.goal.Goal.{Goal}
use Rattle.rb_plan_types.specs.declared.labelling.Label.{Label}
use Rattle.rb_plan_types.specs.Least.{IsLeast, IsUnreachable}
use Rattle.rb_plan_types.specs.Labelling.{Labels, IsExact, label_of}

abbrev pub labelling_of : {A : Type 0} → Answer A → List Label
labelling_of (Plan updates labelling) = labelling
labelling_of (Unreachable labelling) = labelling

abbrev pub labels_of : {A : Type 0} → Answer A → Labels
labels_of answer = label_of (labelling_of answer)

-- the list of updates that is claimed to be the least, or that there is none
abbrev pub claim_of : {A : Type 0} → Answer A → Option (List Update)
claim_of (Plan updates labelling) = Some updates.items
claim_of (Unreachable labelling) = None

-- the claim is true
abbrev pub Shows : Client → Goal → Option (List Update) → Type 0
Shows client goal (Some us) = IsLeast client goal us
Shows client goal None = IsUnreachable client goal

-- a true claim, with the exact labelling
abbrev pub Answers : {A : Type 0} → Client → Goal → Answer A → Type 0
Answers client goal answer = IsExact client (labels_of answer) × Shows client goal (claim_of answer)
