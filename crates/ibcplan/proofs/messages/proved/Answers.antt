use Rattle.ibcplan.proofs.Parcels.{sent_with}
use Rattle.ibcplan.proofs.messages.proved.Goals as goal

pub returns : goal.returns
returns g c =
    sent_with (g.F.AnswerFolders.known c.args.files.now) c.config-config.result.now c.args.sending.now.relayer c.as_slice-updates.result.now c.args.sending.now.updates.items
    c.as_slice-batches.result.now c.args.sending.now.batches.items c.args.senders.now c.in_ok-parcel.parcel c.in_ok-parcel.ensures c.config-config.ensures.value
    c.as_slice-updates.ensures.value c.as_slice-batches.ensures.value
