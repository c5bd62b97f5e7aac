use Rattle.std.proofs.Common.{◌≡◌, [], rules, sym, ap, ◌∙◌, subst}
use Rattle.left_right.specs.Sides.{view}
use Rattle.rb_core_model.specs.Snapshot.{Log}
use Rattle.rb_core.specs.Follower.{IsOfLog}
use Rattle.rb_board.specs.Rule.{followed_on, pending}
use Rattle.rb_board.proofs.Boarding.{opens, shows, opened}
use Rattle.rb_board.proofs.pen.Pen.new.Goals as goal

pub new-requires-clause-rule : goal.new-requires-clause-rule
new-requires-clause-rule g c = opens {A = g.row.A.Denot} (record { follower = c.in_ok-follower.field-0 }) c.in_ok-follower.ensures.log

pub publish_as-writer-requires : goal.publish_as-writer-requires
publish_as-writer-requires g c next is =
    let old = c.in_ok-writer.writer in
    let first = old.desk.shown.value in
    let none : pending old ≡ [] = search rules in
    let is_first : first ≡ record { follower = c.in_ok-follower.field-0 } = search rules in
    let same = is ∙ ap (followed_on first.follower) none in
    shows _ _ first next (pending old) (subst IsOfLog (sym (same ∙ (λ i. (is_first i).follower))) c.in_ok-follower.ensures.log) is

pub invariant_of-result : goal.invariant_of-result
invariant_of-result g c =
    let old = c.in_ok-writer.writer in
    let new = c.publish_as-writer.result.0 in
    let e = c.publish_as-writer.ensures in
    let is_first : old.desk.shown.value ≡ record { follower = c.in_ok-follower.field-0 } = search rules in
    (opened c.publish_as-writer.result.1 old.desk.shown.value new.desk.shown.value (view old.desk.place) (view new.desk.place) (pending old) (pending new)
    c.args.core.config c.args.core.log (search rules) (search rules) (search rules) (subst (λ h. IsOfLog h.follower) (sym is_first) c.in_ok-follower.ensures.log) (search rules) e.values e.rule).0

pub returns : goal.returns
returns g c =
    let old = c.in_ok-writer.writer in
    let new = c.publish_as-writer.result.0 in
    let e = c.publish_as-writer.ensures in
    let is_first : old.desk.shown.value ≡ record { follower = c.in_ok-follower.field-0 } = search rules in
    ap (λ (log : Log). record { config = c.args.core.config; log = c.args.core.log; published = log })
    (opened c.publish_as-writer.result.1 old.desk.shown.value new.desk.shown.value (view old.desk.place) (view new.desk.place) (pending old) (pending new)
    c.args.core.config c.args.core.log (search rules) (search rules) (search rules) (subst (λ h. IsOfLog h.follower) (sym is_first) c.in_ok-follower.ensures.log) (search rules) e.values e.rule).1
