use Rattle.std.proofs.Common.{ℕ, ◌∙◌, map, take, arith}
use Rattle.std.specs.List.{filter, enumerate_from}
use Rattle.std.proofs.lemmas.Grind.{common_steps}
use Rattle.rb_scan.specs.Going.{can_go, is_going}
use Rattle.rb_scan.specs.declared.message.PacketMsg.{PacketMsg}
use Rattle.rb_scan.proofs.GoingLemmas.{goes_by}
use Rattle.rb_scan.proofs.Kept.{kept_more, kept_all}
use Rattle.rb_scan.proofs.bars.going.Goals as goal
use Rattle.rb_scan.proofs.bars.going.Goals.{then-take+in_ok-push, else-take}

pub loop-place-preserved : goal.loop-place-preserved
loop-place-preserved g c =
    let messages = c.args.messages.now in
    let message = c.index-messages-place.result in
    let judged = goes_by c.new-ends.result messages c.args.bars.now c.args.order c.loop-place.place message c.new-ends.ensures in
    let more = kept_more (λ (p : ℕ × PacketMsg). is_going c.args.order (can_go c.args.bars.now) messages p.0 p.1) messages c.loop-place.place message c.loop-place-test.true c.index-messages-place.is in
    elim c.if-take.branch [ then-take+in_ok-push w ↦ grind (arith, common_steps) | else-take w ↦ grind (arith, common_steps) ]

pub returns : goal.returns
returns g c =
    let messages = c.args.messages.now in
    c.loop-place.invariant ∙ kept_all (λ (p : ℕ × PacketMsg). is_going c.args.order (can_go c.args.bars.now) messages p.0 p.1) messages c.loop-place.place c.loop-place-test.false
