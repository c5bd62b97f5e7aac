use Rattle.std.proofs.Common.{◌≡◌, ◌-◌, ◌^◌, min, take}
use Rattle.ibcplan.proofs.Refusals.{events_refused}
use Rattle.ibcplan.proofs.reporting.refused_events.Given as goal

abbrev pub invariant-loop-turn : goal.invariant-loop-turn
invariant-loop-turn l = l.count ≡ min (events_refused (take l.turn-index l.turn-items)) (2 ^ 64 - 1)
