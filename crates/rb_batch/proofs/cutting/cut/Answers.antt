use Rattle.std.proofs.Common.{◌≡◌, ◌<◌, length, slice_index, below_more, arith}
use Rattle.std.proofs.lemmas.Bool.{iff_false}
use Rattle.std.proofs.lemmas.List.{get_or_read}
use Rattle.std.proofs.lemmas.List.Elements.{All-from_get_or}
use Rattle.rb_batch.specs.Limits.{IsTooBig}
use Rattle.rb_batch.proofs.Greedy.{least_from_greedy}
use Rattle.rb_batch.proofs.UnderWay.{IsUnderWay, HasRoom, empty_at, takes, closes, greedy_with_last, greedy_without_last}
use Rattle.rb_batch.proofs.cutting.cut.Goals as goal
use Rattle.rb_batch.proofs.cutting.cut.Goals.{then-not-has_room+in_ok-push, else-not-has_room}
use Rattle.rb_batch.proofs.cutting.cut.Goals.{then-last-gt0+in_ok-push-2, else-last-gt0}

pub loop-index-preserved : goal.loop-index-preserved
loop-index-preserved g c =
    let limits = c.args.limits in
    let messages = c.args.messages.now in
    let index = c.loop-index.index in
    let gas = c.index-messages-index.result in
    let before = c.loop-index.invariant in
    let here : index < length messages = omega arith in
    let is : gas ≡ slice_index messages index = get_or_read messages index gas here c.index-messages-index.is 0 in
    let small : IsTooBig limits gas → ⊥ = iff_false c.is_too_big.ensures c.if-is_too_big.false in
    let ready : IsUnderWay limits messages c.if-not-has_room.transactions.items c.if-not-has_room.last index × HasRoom limits c.if-not-has_room.last gas =
    elim c.if-not-has_room.branch [
      | then-not-has_room+in_ok-push w ↦
          let new : c.if-not-has_room.last ≡ empty_at limits index = cc (w.last-is, w.empty-last-then-not-has_room.ensures, c.transaction_gas-transaction_gas.ensures.value) in
          rw (w.transactions-is, new, w.in_ok-push.ensures.items)
          (closes limits messages _ _ index gas is before.limits before.cut small (iff_false c.has_room.ensures w.if-not-has_room.true))
      | else-not-has_room w ↦ rw (w.transactions-is, w.last-is) (before.cut, c.has_room.ensures.0 w.if-not-has_room.false)
    ] in
    record {
      limits = before.limits;
      cut = rw c.add.ensures (takes limits messages _ _ index gas here is ready.0 ready.1);
      none_too_big = below_more _ _ before.none_too_big (rw is at small);
    }

pub returns-clause-least : goal.returns-clause-least
returns-clause-least g c =
    let limits = c.args.limits in
    let messages = c.args.messages.now in
    let closed = c.loop-index.transactions.items in
    let last = c.loop-index.last in
    let cut = c.loop-index.invariant.cut in
    let all : c.loop-index.index ≡ length messages = omega arith in
    elim c.if-last-gt0.branch [
      | then-last-gt0+in_ok-push-2 w ↦
          rw (w.transactions-is, w.in_ok-push-2.ensures.items)
          (least_from_greedy limits messages _ (greedy_with_last limits messages closed last _ all cut (omega (arith, w.if-last-gt0.true))))
      | else-last-gt0 w ↦
          rw w.transactions-is
          (least_from_greedy limits messages closed (greedy_without_last limits messages closed last _ all cut (omega (arith, w.if-last-gt0.false))))
    ]

pub returns-clause-none_too_big : goal.returns-clause-none_too_big
returns-clause-none_too_big g c =
    All-from_get_or (λ gas. IsTooBig c.args.limits gas → ⊥) c.args.messages.now 0 (λ k h. c.loop-index.invariant.none_too_big k (omega arith))
