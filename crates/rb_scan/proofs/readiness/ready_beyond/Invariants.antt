use Rattle.std.proofs.Common.{◌≡◌, ℕ, map, take, not, ◌&&◌}
use Rattle.std.specs.Option.{option_map}
use Rattle.std.specs.List.{filter, enumerate_from}
use Rattle.rb_scan.specs.Owed.{is_ready, is_near}
use Rattle.rb_scan.specs.declared.message.PacketMsg.{PacketMsg}
use Rattle.rb_scan.specs.declared.readiness.Ends.{Ends}
use Rattle.rb_scan.proofs.readiness.ready_beyond.Given as goal

abbrev pub invariant-loop-place : goal.invariant-loop-place
invariant-loop-place g l =
    l.list.items
    ≡ map (λ (p : ℕ × PacketMsg). p.1)
    (filter
    (λ (p : ℕ × PacketMsg). is_ready l.order l.ends.reach l.messages p.0 p.1 && not (is_near l.order (option_map (λ (e : Ends). e.reach) l.near_ends) l.messages p.0 p.1))
    (take l.place (enumerate_from 0 l.messages)))
