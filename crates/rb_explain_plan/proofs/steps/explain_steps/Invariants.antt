use Rattle.std.proofs.Common.{take}
use Rattle.std.specs.List.{AllZip}
use Rattle.rb_explain_plan.specs.Steps.{IsExplainedUpdate}
use Rattle.rb_explain_plan.proofs.steps.explain_steps.Given as goal

abbrev pub invariant-loop-update : goal.invariant-loop-update
invariant-loop-update g l = AllZip (IsExplainedUpdate l.view) (take l.update-index l.updates) l.steps.items
