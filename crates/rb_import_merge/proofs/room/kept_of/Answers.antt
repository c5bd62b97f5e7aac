use Rattle.std.proofs.Common.{◌≡◌, ◌<◌, ◌+◌, length, get_or, filter, take, rules, sym, subst}
use Rattle.std.proofs.lemmas.List.{take_all}
use Rattle.rb_import_check.specs.declared.client.Stored.{Stored}
use Rattle.rb_import_merge.specs.Room.{AreThose, IsKept, is_kept}
use Rattle.rb_import_merge.proofs.Rooms.{kept_more, kept_same, those_more, those_same}
use Rattle.rb_import_merge.proofs.room.kept_of.Goals as goal
use Rattle.rb_import_merge.proofs.room.kept_of.Goals.{then-is_kept+in_ok-push, else-is_kept}

pub loop-record-preserved : goal.loop-record-preserved
loop-record-preserved c =
    let P = λ (s : Stored). IsKept c.args.chain.now c.args.book.now s.state.now.height in
    let Q = λ (s : Stored). ¬ IsKept c.args.chain.now c.args.book.now s.state.now.height in
    let p = λ (s : Stored). is_kept c.args.chain.now c.args.book.now s.state.now.height in
    let small : c.loop-record.record-index < length c.args.stored.now = search rules in
    let is : c.record-item.result ≡ get_or c.args.stored.now c.loop-record.record-index c.record-item.result = search rules in
    elim c.if-is_kept.branch [
      | then-is_kept+in_ok-push w ↦ record {
        those = subst (λ k. AreThose P Q (take (c.loop-record.record-index + 1) c.args.stored.now) k.items) (sym w.kept-is)
            (those_more P Q c.args.stored.now c.loop-record.kept.items _ c.loop-record.record-index c.record-item.result small is c.loop-record.invariant.those (search rules) w.in_ok-push.ensures.items);
        order = subst (λ k. k.items ≡ filter p (take (c.loop-record.record-index + 1) c.args.stored.now)) (sym w.kept-is)
            (kept_more p c.loop-record.kept.items _ c.args.stored.now c.loop-record.record-index c.record-item.result small is (search rules) c.loop-record.invariant.order w.in_ok-push.ensures.items);
      }
      | else-is_kept w ↦ record {
        those = subst (λ k. AreThose P Q (take (c.loop-record.record-index + 1) c.args.stored.now) k.items) (sym w.kept-is)
            (those_same P Q c.args.stored.now c.loop-record.kept.items c.loop-record.record-index c.record-item.result small is c.loop-record.invariant.those (search rules));
        order = subst (λ k. k.items ≡ filter p (take (c.loop-record.record-index + 1) c.args.stored.now)) (sym w.kept-is)
            (kept_same p c.loop-record.kept.items c.args.stored.now c.loop-record.record-index c.record-item.result small is (search rules) c.loop-record.invariant.order);
      }
    ]

pub returns-clause-those : goal.returns-clause-those
returns-clause-those c =
    subst (λ l. AreThose (λ (s : Stored). IsKept c.args.chain.now c.args.book.now s.state.now.height) (λ (s : Stored). ¬ IsKept c.args.chain.now c.args.book.now s.state.now.height) l c.loop-record.kept.items)
    (take_all c.loop-record.record-index c.args.stored.now (search rules)) c.loop-record.invariant.those

pub returns-clause-order : goal.returns-clause-order
returns-clause-order c =
    subst (λ l. c.loop-record.kept.items ≡ filter (λ (s : Stored). is_kept c.args.chain.now c.args.book.now s.state.now.height) l)
    (take_all c.loop-record.record-index c.args.stored.now (search rules)) c.loop-record.invariant.order
