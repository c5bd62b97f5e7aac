use Rattle.std.proofs.Common.{List, ℕ, subst}
use Rattle.ibcplan_folders.specs.Fleets.{AreTold, ClientHas}
use Rattle.ibcplan_folders.specs.Leavings.{OrFailed, failed}
use Rattle.rb_messages.proofs.Zipped.{zipped_all}
use Rattle.ibcplan_folders.proofs.Leaving.{clients_more}
use Rattle.ibcplan_folders.proofs.importing.client_answers.Goals as goal

pub loop-client-preserved : goal.loop-client-preserved
loop-client-preserved g c =
    let told = AreTold (g.F.AnswerFolders.known c.args.files.now) in
    let saved = c.in_ok-saved.saved in
    let since = c.tracked_revision-since.result in
    let refused = failed c.answers_of.new.failures.items in
    clients_more told c.args.chains.now c.args.clients.now c.loop-client.client-index c.client-item.result c.loop-client.answers.items c.add.new.items.items saved
    (failed c.loop-client.failures.items) refused c.in_ok-add.ensures c.loop-client-test.true c.client-item.is c.in_ok-saved.ensures.more
    (since, c.tracked_revision-since.ensures.revision, subst (λ (id : List ℕ). OrFailed told refused since id saved) c.as_str.ensures.text c.in_ok-saved.ensures.told)
    c.loop-client.invariant

pub returns : goal.returns
returns g c =
    let told = AreTold (g.F.AnswerFolders.known c.args.files.now) in
    zipped_all (ClientHas (OrFailed told (failed c.loop-client.failures.items)) c.args.chains.now) c.args.clients.now c.loop-client.client-index c.loop-client.answers.items
    c.loop-client-test.false c.loop-client.invariant
