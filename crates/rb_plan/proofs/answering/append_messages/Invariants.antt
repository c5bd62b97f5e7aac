use Rattle.std.proofs.Common.{◌≡◌, ◌++◌, map, take}
use Rattle.rb_plan_client.specs.Task.{Message}
use Rattle.rb_plan.proofs.answering.append_messages.Given as goal

abbrev pub invariant-loop-message : goal.invariant-loop-message
invariant-loop-message g l = l.gases.items ≡ l.initial.gases.items ++ map (λ (m : Message). m.gas) (take l.message-index l.messages)
