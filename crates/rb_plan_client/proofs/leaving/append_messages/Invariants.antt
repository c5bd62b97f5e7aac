use Rattle.std.proofs.Common.{◌≡◌, ◌++◌, map, take}
use Rattle.rb_plan_client.specs.Task.{message_on}
use Rattle.rb_plan_client.proofs.leaving.append_messages.Given as goal

abbrev pub invariant-loop-packet : goal.invariant-loop-packet
invariant-loop-packet g l = l.messages.items ≡ l.initial.messages.items ++ map (message_on l.path) (take l.packet-index l.packets)
