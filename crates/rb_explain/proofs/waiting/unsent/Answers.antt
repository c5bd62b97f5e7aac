use Rattle.std.proofs.Common.{◌≡◌, ◌+◌, ◌∷◌, drop, Option, List, sym, ap, ◌∙◌, subst}
use Rattle.std.specs.Option.{option_copied}
use Rattle.std.proofs.lemmas.List.{drop_more, drop_all}
use Rattle.rb_plan_client.specs.Task.{Message}
use Rattle.rb_explain.specs.Waiting.{IsSentFirst}
use Rattle.rb_explain.specs.declared.waiting.WaitingMessage.{WaitingMessage}
use Rattle.rb_explain.proofs.Waits.{IsUnsent, unsent_sent, unsent_left, unsent_all}
use Rattle.rb_explain.proofs.waiting.unsent.Goals.{in-Some, in-None+in_ok-push-in-None}
use Rattle.rb_explain.proofs.waiting.unsent.Goals as goal

pub loop-message-preserved : goal.loop-message-preserved
loop-message-preserved g c =
    let owed = c.args.owed.now in
    let xs = c.args.sent.now in
    let i = c.loop-message.message-index in
    let ys = c.loop-message.sent.now in
    let waiting = c.loop-message.waiting.items in
    let inv = c.loop-message.invariant in
    let w = c.message-item.result in
    let at : drop i owed ≡ w ∷ drop (i + 1) owed = drop_more owed i w c.loop-message-test.true ∙ ap (λ (v : WaitingMessage). v ∷ drop (i + 1) owed) (sym c.message-item.is) in
    elim c.match-after_sent.branch [
      | in-Some b ↦ rw (b.waiting-is, b.sent-is) (unsent_sent owed xs i ys waiting inv w at b.in-Some.rest.now
          (subst (λ (o : Option (List Message)). IsSentFirst w ys o) (ap option_copied b.in-Some.is) c.after_sent.ensures))
      | in-None+in_ok-push-in-None b ↦ rw (b.waiting-is, b.sent-is) (subst (IsUnsent owed xs (i + 1) ys) (sym b.in_ok-push-in-None.ensures.items)
          (unsent_left owed xs i ys waiting inv w at (subst (λ (o : Option (List Message)). IsSentFirst w ys o) (ap option_copied b.in-None.is) c.after_sent.ensures)))
    ]

pub returns : goal.returns
returns g c =
    unsent_all c.args.owed.now c.args.sent.now c.loop-message.message-index c.loop-message.sent.now c.loop-message.waiting.items c.loop-message.invariant
    (drop_all c.loop-message.message-index c.args.owed.now c.loop-message-test.false)
