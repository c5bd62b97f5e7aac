use Rattle.ibcplan_folders.specs.Packets.{WereRead}
use Rattle.ibcplan_folders.proofs.packets.answers_on.Given as goal

abbrev pub invariant-loop-name : goal.invariant-loop-name
invariant-loop-name g l = WereRead (g.F.AnswerFolders.known l.files) l.id l.answers
