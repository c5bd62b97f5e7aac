use Rattle.std.proofs.Common.{◌≡◌, filter, take}
use Rattle.rb_scan.specs.declared.message.PacketMsg.{PacketMsg}
use Rattle.rb_plan_client.specs.Task.{is_too_big}
use Rattle.rb_plan_client.proofs.leaving.too_big_packets.Given as goal

abbrev pub invariant-loop-packet : goal.invariant-loop-packet
invariant-loop-packet g l = l.packets.items ≡ filter (λ (m : PacketMsg). is_too_big l.job.task l.path m.kind) (take l.packet-index l.packet-items)
