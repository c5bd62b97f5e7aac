use Rattle.std.proofs.Common.{take}
use Rattle.std.specs.List.{AllZip}
use Rattle.ibcplan_folders.specs.Packets.{StandFor}
use Rattle.ibcplan_folders.proofs.packets.packet_texts.Given as goal

-- the texts of the first batches are made
abbrev pub invariant-loop-batch : goal.invariant-loop-batch
invariant-loop-batch g l = AllZip (StandFor (g.F.AnswerFolders.known l.files) l.config l.senders l.answers) (take l.batch-index l.batches) l.texts.items
