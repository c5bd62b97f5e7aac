use Rattle.std.proofs.Common.{◌≡◌, ℕ, ◌++◌, map, take}
use Rattle.std.specs.List.{enumerate_from}
use Rattle.rb_scan.specs.declared.message.PacketMsg.{PacketMsg}
use Rattle.rb_explain.specs.Waiting.{owed_message}
use Rattle.rb_explain.proofs.waiting.add_owed.Given as goal

abbrev pub invariant-loop-place : goal.invariant-loop-place
invariant-loop-place g l =
    l.messages.items ≡ l.initial.messages.items ++ map (λ (k : ℕ × PacketMsg). owed_message l.job.task l.reach l.task k.0 k.1) (take l.place (enumerate_from 0 l.owed))
