-- laws of lists of updates and of their labels, over every client's view
use Rattle.std.specs.Prelude.{◌≡◌, ◌↔◌, ◌⊎◌, ℕ, List, Some}
use Rattle.rb_step.specs.LightClient.{Update, IsAcceptable, Leaves}
use Rattle.rb_step.specs.View.{View, IsView, client_of}
use Rattle.rb_plan_types.specs.declared.cost.Cost.{Cost}
use Rattle.rb_script_types.specs.declared.goal.Goal.{Goal}
use Rattle.rb_plan_types.specs.declared.labelling.Label.{Label}
use Rattle.rb_plan_types.specs.Order.{PrecedesList, cost_of}
use Rattle.rb_plan_types.specs.Least.{IsLeast}
use Rattle.rb_plan_types.specs.Labelling.{IsLabelling, Labels, IsLabelledAtMost, IsSound, IsExact, IsAttained, label_of}

-- every height that an acceptable list leaves stored and live has a sound label, and the list costs at least that
abbrev pub SoundBounds : Type 0
SoundBounds =
    (v : View) (label : Labels) → IsView v → IsSound (client_of v) label
    → (us : List Update) (h : ℕ) → IsAcceptable (client_of v) us → Leaves (client_of v) us h
    → IsLabelledAtMost label h (cost_of (client_of v) us)

-- of any two lists one precedes the other, or they are one list, and never two of these
pub record OrderIsTotal : Type 0 where
  pub cases : (v : View) (us vs : List Update) → PrecedesList (client_of v) us vs ⊎ ((us ≡ vs) ⊎ PrecedesList (client_of v) vs us)
  pub itself : (v : View) (us : List Update) → PrecedesList (client_of v) us us → ⊥
  pub chain : (v : View) (us vs ws : List Update) → PrecedesList (client_of v) us vs → PrecedesList (client_of v) vs ws → PrecedesList (client_of v) us ws

-- there is at most one least list, and at most one exact labelling
pub record AnswersAreOne : Type 0 where
  pub least : (v : View) (goal : Goal) (us vs : List Update) → IsLeast (client_of v) goal us → IsLeast (client_of v) goal vs → us ≡ vs
  pub exact : (v : View) (label label' : Labels) → IsExact (client_of v) label → IsExact (client_of v) label'
      → (h : ℕ) (c : Cost) → label h ≡ Some c → label' h ≡ Some c

-- a labelling is exact where it is sound and each label is attained: what going upwards over the heights gives
abbrev pub ExactIsUpward : Type 0
ExactIsUpward =
    (v : View) (label : Labels) → IsView v → IsExact (client_of v) label ↔ (IsSound (client_of v) label × IsAttained (client_of v) label)

-- every client has an exact labelling
abbrev pub ExactExists : Type 0
ExactExists = (v : View) → IsView v → (labels : List Label) × IsLabelling labels × IsExact (client_of v) (label_of labels)
