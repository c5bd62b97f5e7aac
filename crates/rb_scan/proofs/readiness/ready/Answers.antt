use Rattle.std.proofs.Common.{ℕ, ◌∙◌, ap, map, take, arith}
use Rattle.std.specs.List.{filter, enumerate_from}
use Rattle.std.proofs.lemmas.Grind.{common_steps}
use Rattle.rb_scan.specs.Owed.{is_ready}
use Rattle.rb_scan.specs.declared.message.PacketMsg.{PacketMsg}
use Rattle.rb_scan.specs.declared.readiness.Ends.{Ends}
use Rattle.rb_scan.proofs.Ends.{taken_by}
use Rattle.rb_scan.proofs.Kept.{kept_more, kept_all}
use Rattle.rb_scan.proofs.readiness.ready.Goals as goal
use Rattle.rb_scan.proofs.readiness.ready.Goals.{then-take+in_ok-push, else-take}

pub loop-place-preserved : goal.loop-place-preserved
loop-place-preserved g c =
    let messages = c.args.messages.now in
    let message = c.index-messages-place.result in
    let ends = c.new-ends.result in
    let judged = taken_by ends messages c.in-Some.reach c.args.order c.loop-place.place message c.new-ends.ensures in
    let more = kept_more (λ (p : ℕ × PacketMsg). is_ready c.args.order ends.reach messages p.0 p.1) messages c.loop-place.place message c.loop-place-test.true c.index-messages-place.is in
    elim c.if-take.branch [ then-take+in_ok-push w ↦ grind (arith, common_steps) | else-take w ↦ grind (arith, common_steps) ]

pub returns : goal.returns
returns g c =
    let messages = c.args.messages.now in
    let all = kept_all (λ (p : ℕ × PacketMsg). is_ready c.args.order c.in-Some.reach messages p.0 p.1) messages c.loop-place.place c.loop-place-test.false in
    let reached = ap (λ (e : Ends). map (λ (p : ℕ × PacketMsg). p.1) (filter (λ (p : ℕ × PacketMsg). is_ready c.args.order e.reach messages p.0 p.1) (take c.loop-place.place (enumerate_from 0 messages)))) c.new-ends.ensures in
    rw c.in-Some.is (c.loop-place.invariant ∙ reached ∙ all)
