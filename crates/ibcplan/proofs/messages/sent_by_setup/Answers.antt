use Rattle.std.proofs.Common.{List, subst}
use Rattle.std.specs.Prelude.{IfSome, Option}
use Rattle.rb_import_setup.specs.declared.sender.Sender.{Sender}
use Rattle.rb_script_types.specs.Script.{script_view}
use Rattle.ibcplan.specs.Headline.{IsParcelOf}
use Rattle.ibcplan.proofs.Parcels.{setup_sent}
use Rattle.ibcplan.proofs.messages.sent_by_setup.Goals as goal

pub returns : goal.returns
returns g c =
    let known = g.F.AnswerFolders.known c.args.files.now in
    let imported = c.in_ok-imported.imported in
    let script = imported.script in
    let sent = c.in_ok-sent.sent in
    setup_sent known c.args.input.now c.args.import imported.status script c.in_ok-senders.senders.items sent c.told_behind.result c.in_ok-imported.ensures.script c.in_ok-senders.ensures
    (subst (λ (senders : List (Option Sender)). IfSome sent.parcel (IsParcelOf known (script_view script) senders)) c.as_slice.ensures.value c.in_ok-sent.ensures) c.told_behind.ensures.parcel c.told_behind.ensures.status
