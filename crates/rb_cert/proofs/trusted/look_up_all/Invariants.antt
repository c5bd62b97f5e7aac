use Rattle.rb_plan_types.specs.Labelling.{label_of}
use Rattle.rb_cert.proofs.LookedUp.{AreLookedUpBefore}
use Rattle.rb_cert.proofs.trusted.look_up_all.Given as goal

abbrev pub invariant-loop-place : goal.invariant-loop-place
invariant-loop-place g l = AreLookedUpBefore l.view (label_of l.labelling) l.found l.place
