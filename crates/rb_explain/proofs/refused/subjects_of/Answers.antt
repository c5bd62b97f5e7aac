use Rattle.rb_core_model.specs.Seen.{observed}
use Rattle.rb_explain.proofs.Subjects.{subjects_all}
use Rattle.rb_explain.proofs.refused.subjects_of.Goals as goal

pub returns : goal.returns
returns g c =
    subjects_all observed c.args.events.now c.loop-event.event-index c.args.is_wanted c.loop-event.subjects.items c.loop-event-test.false c.if-not-is_wanted.false c.loop-event.invariant
