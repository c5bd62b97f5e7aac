use Rattle.std.proofs.Common.{◌≡◌, ℕ, ◌+◌, ◌++◌, [], ◌∷◌, List, map, take, sym, ap, ◌∙◌, append_assoc}
use Rattle.std.specs.List.{enumerate_from}
use Rattle.rb_scan.specs.declared.message.PacketMsg.{PacketMsg}
use Rattle.rb_explain.specs.Waiting.{owed_message}
use Rattle.rb_explain.specs.declared.waiting.WaitingMessage.{WaitingMessage}
use Rattle.rb_explain.proofs.Waits.{told_more, told_all}
use Rattle.rb_explain.proofs.waiting.add_owed.Goals as goal

pub loop-place-preserved : goal.loop-place-preserved
loop-place-preserved g c =
    let before = c.args.messages.now.items in
    let owed = c.owed-owed.result.now in
    let i = c.loop-place.place in
    let m = c.index-owed-place.result in
    let f : ℕ × PacketMsg → WaitingMessage = λ k. owed_message c.args.job.now.task c.args.reach.now c.args.task.now k.0 k.1 in
    let first = take i (enumerate_from 0 owed) in
    c.in_ok-push.ensures.items
    ∙ ap (λ (xs : List WaitingMessage). xs ++ c.owed_message.result ∷ []) c.loop-place.invariant
    ∙ ap (λ (w : WaitingMessage). (before ++ map f first) ++ w ∷ []) c.owed_message.ensures
    ∙ append_assoc before (map f first) (f (i, m) ∷ [])
    ∙ ap (λ (xs : List WaitingMessage). before ++ xs) (sym (told_more f owed i m c.loop-place-test.true c.index-owed-place.is))

pub returns : goal.returns
returns g c =
    let before = c.args.messages.now.items in
    let f : ℕ × PacketMsg → WaitingMessage = λ k. owed_message c.args.job.now.task c.args.reach.now c.args.task.now k.0 k.1 in
    c.loop-place.invariant
    ∙ ap (λ (xs : List WaitingMessage). before ++ xs) (told_all f c.owed-owed.result.now c.loop-place.place c.loop-place-test.false)
    ∙ ap (λ (ms : List PacketMsg). before ++ map f (enumerate_from 0 ms)) c.owed-owed.ensures
