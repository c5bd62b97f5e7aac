use Rattle.std.proofs.Common.{take}
use Rattle.std.specs.List.{AllZip}
use Rattle.ibcplan_folders.specs.Packets.{WereReadOf}
use Rattle.ibcplan_folders.proofs.packets.path_answers.Given as goal

abbrev pub invariant-loop-place : goal.invariant-loop-place
invariant-loop-place g l = AllZip (WereReadOf (g.F.AnswerFolders.known l.files)) (take l.place l.paths) l.answers.items
