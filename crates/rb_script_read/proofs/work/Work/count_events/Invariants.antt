use Rattle.std.proofs.Common.{◌≡◌, drop}
use Rattle.rb_script_read.specs.Work.{after_events, work_view}
use Rattle.rb_script_read.proofs.work.Work.count_events.Given as goal

-- what is left is counted after what was counted
abbrev pub invariant-loop-event : goal.invariant-loop-event
invariant-loop-event l =
    after_events l.limit l.clients (work_view l.self) (drop l.event-index l.events) ≡ after_events l.limit l.clients (work_view l.fn.self) l.events
