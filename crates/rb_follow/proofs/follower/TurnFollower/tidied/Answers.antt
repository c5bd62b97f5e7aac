use Rattle.std.proofs.Common.{ap, sym, ◌∙◌, arith}
use Rattle.rb_core_model.specs.Forgetting.{rest_at_floors}
use Rattle.rb_script_read.specs.Turns.{reading_view}
use Rattle.rb_super_turn.specs.Phases.{standing_in}
use Rattle.rb_follow.specs.Drivers.{core_of}
use Rattle.rb_follow.specs.Views.{following}
use Rattle.rb_follow.proofs.Steps.{tidies, stays}
use Rattle.rb_follow.proofs.follower.TurnFollower.tidied.Goals as goal

-- nothing is worth while
pub returns-then-not-forgets : goal.returns-then-not-forgets
returns-then-not-forgets g c = stays (following c.args.self) (sym c.forgets.ensures ∙ c.if-not-forgets.true)

pub invariant_of-result : goal.invariant_of-result
invariant_of-result g c =
    let s = c.args.self in
    let front = c.in_ok-driver-2.ensures.front in
    record {
      config = c.in_ok-driver-2.ensures.config ∙ ap (λ d. (core_of d).config) c.in_ok-driver.ensures.same ∙ s.config;
      ids = s.ids;
      few_turns = s.few_turns;
      front = omega (arith, front);
      few_events = omega arith;
      few_workers = s.few_workers;
    }

pub returns : goal.returns
returns g c =
    let s = c.args.self in
    let same = ap (λ d. standing_in (core_of d)) c.in_ok-driver.ensures.same in
    tidies (following s) (reading_view c.make_room.new.reading) (standing_in (core_of c.in_ok-driver-2.driver)) c.as_slice.result.now c.in_ok-driver.floors.items c.raise.new.floors.items
    (sym c.forgets.ensures ∙ c.if-not-forgets.false) c.make_room.ensures (c.in_ok-driver-2.ensures.standing ∙ ap rest_at_floors same) c.as_slice.ensures.value c.in_ok-driver.ensures.floors
    c.raise.ensures
