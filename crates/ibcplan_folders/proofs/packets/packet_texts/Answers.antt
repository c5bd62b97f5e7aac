use Rattle.ibcplan_folders.specs.Packets.{StandFor}
use Rattle.ibcplan_folders.proofs.Told.{beside_more}
use Rattle.ibcplan_folders.proofs.packets.packet_texts.Goals as goal

pub loop-batch-preserved : goal.loop-batch-preserved
loop-batch-preserved g c =
    beside_more (StandFor (g.F.AnswerFolders.known c.args.files.now) c.args.config.now c.args.senders.now c.as_slice-answers.result.now) c.args.batches.now c.loop-batch.batch-index c.batch-item.result
    c.loop-batch.texts.items c.add.new.items.items c.in_ok-own.own c.in_ok-add.ensures c.loop-batch-test.true c.batch-item.is c.in_ok-own.ensures c.loop-batch.invariant
