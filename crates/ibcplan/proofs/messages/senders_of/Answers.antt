use Rattle.ibcplan.proofs.Parcels.{senders_read}
use Rattle.ibcplan.proofs.messages.senders_of.Goals as goal

pub returns-in-Ok : goal.returns-in-Ok
returns-in-Ok c = senders_read c.args.input.now c.bytes.result.now c.in-Ok.setup c.bytes.ensures c.in-Ok.ensures.read
