use Rattle.std.proofs.Common.{◌≡◌, ℕ, map, take}
use Rattle.std.specs.List.{filter, enumerate_from}
use Rattle.rb_scan.specs.Going.{can_go, is_going}
use Rattle.rb_scan.specs.declared.message.PacketMsg.{PacketMsg}
use Rattle.rb_scan.proofs.bars.going.Given as goal

abbrev pub invariant-loop-place : goal.invariant-loop-place
invariant-loop-place g l =
    l.list.items
    ≡ map (λ (p : ℕ × PacketMsg). p.1) (filter (λ (p : ℕ × PacketMsg). is_going l.order (can_go l.bars) l.messages p.0 p.1) (take l.place (enumerate_from 0 l.messages)))
