use Rattle.rb_step.specs.View.{client_of}
use Rattle.rb_plan_types.proofs.Tops.{IsTopOfStored, IsTopAfter}
use Rattle.rb_plan_types.proofs.batch.proof_height.Given as goal

abbrev pub invariant-loop-place : goal.invariant-loop-place
invariant-loop-place g l = IsTopOfStored (client_of l.view) (client_of l.view).stored l.place l.top

abbrev pub invariant-loop-update : goal.invariant-loop-update
invariant-loop-update g l = IsTopAfter (client_of l.view) l.updates l.update-index l.top
