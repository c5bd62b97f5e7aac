use Rattle.rb_script_types.specs.Script.{script_view}
use Rattle.ibcplan.proofs.Parcels.{parcel_sent}
use Rattle.ibcplan.proofs.messages.sent_by.Goals as goal

pub returns-in-Ok : goal.returns-in-Ok
returns-in-Ok g c =
    parcel_sent (g.F.AnswerFolders.known c.args.files.now) (script_view c.args.script) c.args.senders.now c.in-Ok.sending.relayer c.in-Ok.sending.updates.items c.in-Ok.sending.batches.items
    c.proved.result c.in-Ok.ensures c.proved.ensures
