use Rattle.std.proofs.Common.{◌≡◌, sym, ap, ◌∙◌, subst}
use Rattle.std.specs.Prelude.{IfErr, OnOk}
use Rattle.left_right.specs.Sides.{view}
use Rattle.rb_core.specs.Follower.{Follower, IsOfLog, log_in}
use Rattle.rb_board.specs.Ends.{Pen}
use Rattle.rb_board.specs.Rule.{pending}
use Rattle.rb_board.proofs.Boarding.{of_log, same_config, shows, publishes}
use Rattle.rb_board.proofs.pen.Pen.publish.Goals as goal

pub publish_as-writer-requires : goal.publish_as-writer-requires
publish_as-writer-requires g c next is =
    let old = c.self.inside.writer in
    let i = c.self.invariant in
    let of : IsOfLog next.follower =
    of_log next.follower c.self.inside.head.config c.self.inside.head.log (ap (λ (f : Follower). f.past.config) is ∙ sym (same_config old.desk.shown.value.follower (pending old)) ∙ i.config_same)
    (i.leads ∙ ap (λ (f : Follower). log_in f.past) (sym is)) (ap (λ (f : Follower). f.state) is ∙ i.knows)
    c.know.ensures.set_up c.know.ensures.begun c.know.ensures.events c.know.ensures.accepted in
    shows _ _ old.desk.shown.value next (pending old) of is

pub invariant_of-pen : goal.invariant_of-pen
invariant_of-pen g c =
    let old = c.self.inside.writer in
    let new = c.publish_as-writer.result.0 in
    let e = c.publish_as-writer.ensures in
    let i = c.self.invariant in
    (publishes c.publish_as-writer.result.1 old.desk.shown.value new.desk.shown.value (view old.desk.place) (view new.desk.place)
    (pending old) (pending new) c.self.inside.head.config c.self.inside.head.log i e.values e.rule).0

pub returns-clause-published : goal.returns-clause-published
returns-clause-published g c =
    let old = c.self.inside.writer in
    let new = c.publish_as-writer.result.0 in
    let e = c.publish_as-writer.ensures in
    let i = c.self.invariant in
    let p = (publishes c.publish_as-writer.result.1 old.desk.shown.value new.desk.shown.value (view old.desk.place) (view new.desk.place)
    (pending old) (pending new) c.self.inside.head.config c.self.inside.head.log i e.values e.rule).1.0 in
    subst (λ (s : Pen). OnOk c.publish_as-writer.result.1 (log_in new.desk.shown.value.follower.past ≡ s.log)) c.self.view_is p

pub returns-clause-unchanged : goal.returns-clause-unchanged
returns-clause-unchanged g c =
    let old = c.self.inside.writer in
    let new = c.publish_as-writer.result.0 in
    let e = c.publish_as-writer.ensures in
    let i = c.self.invariant in
    let p = (publishes c.publish_as-writer.result.1 old.desk.shown.value new.desk.shown.value (view old.desk.place) (view new.desk.place)
    (pending old) (pending new) c.self.inside.head.config c.self.inside.head.log i e.values e.rule).1.1 in
    subst (λ (s : Pen). IfErr c.publish_as-writer.result.1 (λ _. log_in new.desk.shown.value.follower.past ≡ s.published)) c.self.view_is p
