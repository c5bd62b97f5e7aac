use Rattle.std.proofs.Common.{◌≡◌, drop, length, map}
use Rattle.rb_script_types.specs.Script.{turn_view}
use Rattle.rb_script_read.specs.Work.{after_events_of, no_work, work_view}
use Rattle.rb_script_read.proofs.work.stores_of.Given as goal

-- what is left is counted after what was counted
abbrev pub invariant-loop-turn : goal.invariant-loop-turn
invariant-loop-turn l =
    let c = l.script.config in
    let turns = l.script.turns.items in
    after_events_of c.limit c.clients.items (work_view l.work) (map turn_view (drop l.turn-index turns))
    ≡ after_events_of c.limit c.clients.items (no_work (length c.chains.items)) (map turn_view turns)
