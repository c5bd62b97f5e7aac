use Rattle.std.proofs.Common.{ap}
use Rattle.rb_script_config.specs.Setups.{setup_view}
use Rattle.rb_script_read.specs.Turns.{reading_view}
use Rattle.rb_script_read.specs.NextTurns.{reading_after}
use Rattle.rb_super_turn.specs.Views.{turn_report_view}
use Rattle.rb_follow.specs.Drivers.{core_of}
use Rattle.rb_follow.specs.Views.{following}
use Rattle.rb_follow.proofs.Steps.{in_order, turn_for, room_for, stays_in_order, answers}
use Rattle.rb_follow.proofs.follower.TurnFollower.take.Goals as goal

pub turn-requires-clause-turn : goal.turn-requires-clause-turn
turn-requires-clause-turn g c = λ ks _.
    let s = c.args.self in
    let order = in_order (setup_view s.setup) (core_of s.driver) s.paths.items s.turns s.events s.config s.ids s.few_turns s.front s.few_events in
    turn_for (setup_view s.setup) (core_of s.driver) (core_of c.in_ok-driver.driver) s.paths.items s.turns s.events c.args.next.turn
    (ap (λ d. core_of d) c.in_ok-driver.ensures.same) order c.requires.form

pub turn-requires-clause-room : goal.turn-requires-clause-room
turn-requires-clause-room g c = λ ks _.
    let s = c.args.self in
    let order = in_order (setup_view s.setup) (core_of s.driver) s.paths.items s.turns s.events s.config s.ids s.few_turns s.front s.few_events in
    room_for (setup_view s.setup) (core_of s.driver) (core_of c.in_ok-driver.driver) s.paths.items s.turns s.events c.args.next.turn
    (ap (λ d. core_of d) c.in_ok-driver.ensures.same) order c.requires.room

pub invariant_of-follower : goal.invariant_of-follower
invariant_of-follower g c =
    let s = c.args.self in
    let order = in_order (setup_view s.setup) (core_of s.driver) s.paths.items s.turns s.events s.config s.ids s.few_turns s.front s.few_events in
    let after = stays_in_order (setup_view s.setup) (core_of s.driver) (core_of c.in_ok-driver.driver) (core_of c.in_ok-driver-2.driver) s.paths.items s.turns s.events
    c.events_after-events.result c.args.next.turn (ap (λ d. core_of d) c.in_ok-driver.ensures.same) order c.requires.turns c.requires.room c.events_after-events.ensures c.in_ok-driver-2.ensures.later in
    record { config = after.config; ids = after.paths_are; few_turns = after.few_turns; front = after.front; few_events = after.few_events; few_workers = s.few_workers }

pub returns-clause-answer : goal.returns-clause-answer
returns-clause-answer g c =
    let s = c.args.self in
    answers (setup_view s.setup) (core_of s.driver) (core_of c.in_ok-driver.driver) (core_of c.in_ok-driver-2.driver) s.turns s.events c.events_after-events.result s.forgotten.items
    (reading_view s.reading) (reading_after (reading_view s.reading) c.args.next.change) (reading_view c.in_ok-driver.reading) c.args.next.turn (turn_report_view c.in_ok-driver-2.report)
    (following c.in_ok-follower.follower) (ap (λ d. core_of d) c.in_ok-driver.ensures.same) c.in_ok-driver.ensures.reading c.events_after-events.ensures c.in_ok-driver-2.ensures.report c.in_ok-driver-2.ensures.standing
    c.in_ok-follower.ensures

pub returns-clause-right : goal.returns-clause-right
returns-clause-right g c = c.read_turn_is_turn.ensures
