use Rattle.std.proofs.Common.{take}
use Rattle.std.specs.List.{AllZip}
use Rattle.ibcplan_folders.specs.Packets.{StandsFor}
use Rattle.ibcplan_folders.proofs.packets.batch_texts.Given as goal

-- what stands for the first messages is made
abbrev pub invariant-loop-message : goal.invariant-loop-message
invariant-loop-message g l =
    AllZip (StandsFor (g.F.AnswerFolders.known l.files) l.source.config.now l.source.batch.now l.source.answers.now l.source.signer.now)
    (take l.message-index l.source.batch.now.messages.items) l.texts.items
