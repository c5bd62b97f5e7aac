use Rattle.std.proofs.Common.{◌+◌, ◌≤◌, List, arith, length, subst, sym, take}
use Rattle.std.specs.List.{AllZip}
use Rattle.rb_messages.proofs.Zipped.{zipped_all}
use Rattle.rb_plan_client.specs.Task.{Message}
use Rattle.ibcplan_folders.specs.Packets.{StandsFor}
use Rattle.ibcplan_folders.proofs.Told.{beside_more}
use Rattle.ibcplan_folders.proofs.packets.batch_texts.Goals as goal

pub loop-message-preserved : goal.loop-message-preserved
loop-message-preserved g c =
    let source = c.args.source.now in
    let fits = StandsFor (g.F.AnswerFolders.known c.args.files.now) source.config.now source.batch.now source.answers.now source.signer.now in
    let place = c.loop-message.message-index in
    let is = c.deref-message-items.ensures.value in
    let before = subst (λ (xs : List Message). AllZip fits (take place xs) c.loop-message.texts.items) (sym is) c.loop-message.invariant in
    subst (λ (xs : List Message). AllZip fits (take (place + 1) xs) c.add.new.items.items) is
    (beside_more fits c.deref-message-items.result.now place c.message-item.result c.loop-message.texts.items c.add.new.items.items c.in_ok-text.text
    c.in_ok-add.ensures c.loop-message-test.true c.message-item.is c.in_ok-text.ensures before)

pub returns : goal.returns
returns g c =
    let source = c.args.source.now in
    let fits = StandsFor (g.F.AnswerFolders.known c.args.files.now) source.config.now source.batch.now source.answers.now source.signer.now in
    let place = c.loop-message.message-index in
    let past = subst (λ (xs : List Message). length xs ≤ place) c.deref-message-items.ensures.value (omega arith) in
    zipped_all fits source.batch.now.messages.items place c.loop-message.texts.items past c.loop-message.invariant
