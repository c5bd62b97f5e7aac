use Rattle.std.proofs.Common.{ℕ, ◌∙◌, ap, take, not, ◌&&◌, Bool, Option, arith}
use Rattle.std.specs.Option.{option_map}
use Rattle.std.specs.List.{enumerate_from}
use Rattle.std.proofs.lemmas.Grind.{common_steps}
use Rattle.rb_scan.specs.Owed.{is_ready, is_near}
use Rattle.rb_scan.specs.declared.message.PacketMsg.{PacketMsg}
use Rattle.rb_scan.specs.declared.readiness.Ends.{Ends}
use Rattle.rb_scan.proofs.Ends.{taken_by, near_by, near_reach}
use Rattle.rb_scan.proofs.Kept.{kept, kept_more, kept_all}
use Rattle.rb_scan.proofs.readiness.ready_beyond.Goals as goal
use Rattle.rb_scan.proofs.readiness.ready_beyond.Goals.{then-take+then-not-is_near+in_ok-push, else-take, else-take-via-then-take+else-not-is_near, else-take-via-else-take}

pub loop-place-preserved : goal.loop-place-preserved
loop-place-preserved g c =
    let messages = c.args.messages.now in
    let message = c.index-messages-place.result in
    let order = c.args.order in
    let ends = c.new-ends.result in
    let near = option_map (λ (e : Ends). e.reach) c.ends_at-near_ends.result in
    let judged = taken_by ends messages c.in-Some.reach order c.loop-place.place message c.new-ends.ensures in
    let near_judged = near_by c.ends_at-near_ends.result messages c.args.near order c.loop-place.place message c.ends_at-near_ends.ensures in
    let more = kept_more (λ (p : ℕ × PacketMsg). is_ready order ends.reach messages p.0 p.1 && not (is_near order near messages p.0 p.1)) messages c.loop-place.place message c.loop-place-test.true c.index-messages-place.is in
    elim c.if-take.branch [
      | then-take+then-not-is_near+in_ok-push w ↦ grind (arith, common_steps)
      | else-take w ↦ elim w.else-take.branch [ else-take-via-then-take+else-not-is_near v ↦ grind (arith, common_steps) | else-take-via-else-take v ↦ grind (arith, common_steps) ]
    ]

pub returns : goal.returns
returns g c =
    let messages = c.args.messages.now in
    let order = c.args.order in
    let passes : ℕ → Option ℕ → ℕ × PacketMsg → Bool = λ reach near p. is_ready order reach messages p.0 p.1 && not (is_near order near messages p.0 p.1) in
    let all = kept_all (passes c.in-Some.reach c.args.near) messages c.loop-place.place c.loop-place-test.false in
    let reached = ap (λ (e : Ends). kept (passes e.reach (option_map (λ (n : Ends). n.reach) c.ends_at-near_ends.result)) (take c.loop-place.place (enumerate_from 0 messages))) c.new-ends.ensures in
    let near = ap (λ (n : Option ℕ). kept (passes c.in-Some.reach n) (take c.loop-place.place (enumerate_from 0 messages))) (near_reach c.ends_at-near_ends.result messages c.args.near c.ends_at-near_ends.ensures) in
    rw c.in-Some.is (c.loop-place.invariant ∙ reached ∙ near ∙ all)
